-- How a loop finds whether every entry passes a test: each loop over a table, whatever its entries are, stands on these laws. Assumes
-- nothing.
use mathlib.Core.Path.{◌≡◌, refl, sym, ◌∙◌}
use mathlib.Core.Bool.{Bool, true, false, not, ◌&&◌, false≢true}
use mathlib.Core.List.{List}
use Prim.Native.Nat.{ℕ, suc, ◌+◌, ◌-◌, ◌<◌, ◌≤◌}
use native.Mathlib.Numerals.{add-one}
use native.Mathlib.Nat.{zero-add, le_antisymm}
use native.Mathlib.Omega.{arith}
use borrow.Author.Tests.{not-true, not-false}
use lib.Dec.{leb, ltb, leb-suc-suc}
use lib.ListN.{length, get_or}
use Rattle.alf_spec.specs.Lists.{all_below, every_from, every}
use Rattle.alf_spec.proofs.Tests.{same_test, all_at, at_all, every-at, at_every}

-- a test of every entry is one of every place
pub every-place : {A : Type 0} (d : A) (test : ℕ → A → Bool) (xs : List A)
    → every_from 0 test xs ≡ all_below (length xs) (λ k. test k (get_or xs k d))
every-place d test xs =
    same_test _ _
    (λ e. at_all (length xs) _ (λ k h. rw zero-add at (every-at d 0 test xs e k h)))
    (λ e. at_every d 0 test xs (λ k h. rw zero-add (all_at (length xs) _ e k h)))

-- entries up to a bound are those below the next number
pub every_up_to : (bound : ℕ) (xs : List ℕ) → every (λ n. ltb n (suc bound)) xs ≡ every (λ n. leb n bound) xs
every_up_to bound xs = simp leb-suc-suc

-- ---- a loop that tests all of n places

-- i places are behind it, and `good` says whether each of them passed
pub record Sofar (n : ℕ) (test : ℕ → Bool) (i : ℕ) (good : Bool) : Type 0 where
  pub within : i ≤ n
  pub sofar : good ≡ all_below i test

pub sofar_none : (n : ℕ) (test : ℕ → Bool) → Sofar n test 0 true
unfolding all_below
sofar_none n test = record { within = omega arith; sofar = refl }

pub sofar_more : {n : ℕ} {test : ℕ → Bool} {i : ℕ} {good : Bool} → Sofar n test i good → i < n → {r : Bool} → r ≡ test i
    → Sofar n test (i + 1) (good && r)
unfolding all_below
sofar_more s h e = record { within = omega arith; sofar = rw (add-one, s.sofar, e) }

pub sofar_done : {n : ℕ} {test : ℕ → Bool} {i : ℕ} {good : Bool} → Sofar n test i good → n ≤ i → good ≡ all_below n test
sofar_done s h = s.sofar ∙ rw (le_antisymm s.within h)

-- ---- a loop that is left at the first place that fails

-- i places are behind it, and each of them passed
pub record Passed (n : ℕ) (test : ℕ → Bool) (i : ℕ) : Type 0 where
  pub within : i ≤ n
  pub passed : all_below i test ≡ true

pub scan_none : (n : ℕ) (test : ℕ → Bool) → Passed n test 0
unfolding all_below
scan_none n test = record { within = omega arith; passed = refl }

pub scan_more : {n : ℕ} {test : ℕ → Bool} {i : ℕ} → Passed n test i → i < n → test i ≡ true → Passed n test (i + 1)
unfolding all_below
scan_more p h e = record { within = omega arith; passed = rw (add-one, p.passed, e) }

pub scan_fails : (n : ℕ) (test : ℕ → Bool) (i : ℕ) → i < n → test i ≡ false → false ≡ all_below n test
scan_fails n test i h e = same_test false (all_below n test) (λ q. absurd (false≢true q)) (λ q. sym e ∙ all_at n test q i h)

pub scan_done : {n : ℕ} {test : ℕ → Bool} {i : ℕ} → Passed n test i → n ≤ i → true ≡ all_below n test
scan_done p h = sym p.passed ∙ rw (le_antisymm p.within h)

-- the code has the test's answer r
module _ {n : ℕ} {test : ℕ → Bool} {i : ℕ} (p : Passed n test i) (h : i < n) {r : Bool} (e : r ≡ test i) where
  pub scan_stop : not r ≡ true → false ≡ all_below n test
  scan_stop q = scan_fails n test i h (sym e ∙ not-true r q)

  pub scan_step : not r ≡ false → Passed n test (i + 1)
  scan_step q = scan_more p h (sym e ∙ not-false r q)

-- the loop goes by pairs of neighbours, of m
module _ {m : ℕ} {test : ℕ → Bool} {i : ℕ} (p : Passed (m - 1) test i) where
  pub pair_stop : i + 1 < m → {r : Bool} → r ≡ test i → not r ≡ true → false ≡ all_below (m - 1) test
  pair_stop h e q = scan_stop p (omega arith) e q

  pub pair_step : i + 1 < m → {r : Bool} → r ≡ test i → not r ≡ false → Passed (m - 1) test (i + 1)
  pair_step h e q = scan_step p (omega arith) e q

  pub pair_done : m ≤ i + 1 → true ≡ all_below (m - 1) test
  pair_done h = scan_done p (omega arith)

-- what a search tries
pub ruleset scans = (sofar_none, sofar_more, sofar_done, scan_none, scan_stop, scan_step, scan_done, pair_stop, pair_step, pair_done)
