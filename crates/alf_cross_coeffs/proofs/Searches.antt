-- The search among the cross-component filters of a bank, and what it says of all of them. Assumes nothing.
use mathlib.Core.Path.{◌≡◌, refl, sym, ◌∙◌, ap, subst}
use mathlib.Core.Bool.{Bool, true, false, not, cond}
use mathlib.Core.List.{List}
use mathlib.Core.Logic.{⊎_elim}
use Prim.Native.Nat.{ℕ, zero, suc, ◌+◌, ◌-◌, ◌*◌, ◌/◌, ◌%◌, ◌≤◌, ◌<◌}
use native.Mathlib.Nat.{le_refl, eq-or-lt_of_le}
use native.Mathlib.Numerals.{add-one}
use native.Mathlib.Omega.{arith}
use borrow.Author.Tests.{not-true, not-false, leb-true, le-leb, lt-leb, ltb-true, ltb-false, lt-ltb, le-ltb}
use lib.Dec.{leb, ltb}
use lib.IntN.{ℤ}
use Rattle.std.specs.List.{find, range_with_len}
use Rattle.std.specs.Option.{is_none}
use Rattle.alf_spec.specs.Lists.{all_below}
use Rattle.alf_spec.specs.Parameters.{cross_number}
use Rattle.alf_spec.specs.Faults.{cross_filter_valid, cross_filters_valid}
use Rattle.alf_spec.proofs.Tests.{same_test, cond_either, all_at, at_all}
use Rattle.std.specs.Prelude.{Option, Some, None}
use Rattle.alf_cross_coeffs.specs.declared.Offender.{Offender}
use Rattle.alf_cross_coeffs.specs.Offenders.{cross_filter_at, valid_at, first_offender, next_offender, found_at, offender_at}

-- where coefficient j of the filter at place n stands in the bank
pub place_of : (n j : ℕ) → 752 * (n / 8) + (696 + 7 * (n % 8)) + j ≡ 752 * (n / 8) + cross_number (n % 8 / 4) (n % 4) j
place_of n j = omega arith

module _ (bank : List ℤ) where
  -- ---- one step of the search

  -- a place is left
  split : (k : ℕ) → k < 64 → next_offender bank k ≡ cond (valid_at bank k) (next_offender bank (k + 1)) k
  unfolding first_offender
  split k h = let e : 64 - k ≡ suc (64 - (k + 1)) = omega arith in rw (e, add-one)

  -- the code has the answer r about place k: it stops there
  pub search_stop : {k : ℕ} {r : Bool} → k < 64 → r ≡ valid_at bank k → not r ≡ true → k ≡ next_offender bank k
  search_stop {k} {r} h e q = sym (split k h ∙ rw (← e, not-true r q))

  -- or goes on
  pub search_step : {k : ℕ} {r : Bool} → k < 64 → r ≡ valid_at bank k → not r ≡ false → next_offender bank k ≡ next_offender bank (k + 1)
  search_step {k} {r} h e q = split k h ∙ rw (← e, not-false r q)

  -- no place is left
  pub search_end : (k : ℕ) → 64 ≤ k → k ≡ next_offender bank k
  unfolding first_offender
  search_end k h = let e : 64 - k ≡ 0 = omega arith in rw e

  -- the chain over the n places that are left finds where it stops
  search_find : (n k : ℕ) → n ≡ 64 - k → find (λ m. not (valid_at bank m)) (range_with_len k n) ≡ found_at (first_offender bank n k)
  unfolding first_offender
  search_find zero k e = rw (le-ltb k 64 (omega arith))
  search_find (suc n) k e = by_test (valid_at bank k) refl (search_find n (suc k) (omega arith))
    where
      by_test : (t : Bool) → valid_at bank k ≡ t
          → find (λ m. not (valid_at bank m)) (range_with_len (suc k) n) ≡ found_at (first_offender bank n (suc k))
          → find (λ m. not (valid_at bank m)) (range_with_len k (suc n)) ≡ found_at (first_offender bank (suc n) k)
      by_test true q on = rw (q, add-one) on
      by_test false q on = rw (q, lt-ltb k 64 (omega arith))

  pub search_found : (k : ℕ) → find (λ m. not (valid_at bank m)) (range_with_len k (64 - k)) ≡ found_at (next_offender bank k)
  search_found k = search_find (64 - k) k refl

  -- it never goes back
  search_forward : (n k : ℕ) → k ≤ first_offender bank n k
  unfolding first_offender
  search_forward zero k = le_refl k
  search_forward (suc n) k =
      cond_either (λ (m : ℕ). k ≤ m) (valid_at bank k) _ _ (omega (arith, search_forward n (suc k))) (le_refl k)

  -- what is found comes with a place farther on, at most that behind the last filter
  pub found_farther : (k : ℕ) {o : Offender} → offender_at (next_offender bank k) ≡ Some o → (k < o.next) × (o.next ≤ 64)
  unfolding offender_at
  found_farther k {o} e = by_test (ltb (next_offender bank k) 64) refl
    where
      by_test : (t : Bool) → ltb (next_offender bank k) 64 ≡ t → (k < o.next) × (o.next ≤ 64)
      by_test true q =
          let below = ltb-true (next_offender bank k) 64 q in
          let here : Offender = record { filter = cross_filter_at (next_offender bank k); next = suc (next_offender bank k) } in
          let found : Some here ≡ Some o = rw q at e in
          let same : here ≡ o = cc in
          let next : suc (next_offender bank k) ≡ o.next = ap (λ (o : Offender). o.next) same in
          (omega (arith, search_forward (64 - k) k), omega arith)
      by_test false q = let none : ◌≡◌ {A = Option Offender} None (Some o) = rw q at e in absurd (cc)

  -- ---- all places

  -- a search that passes each of n places comes behind them
  passes : (n k : ℕ) → ((m : ℕ) → k ≤ m → m < k + n → valid_at bank m ≡ true) → k + n ≤ first_offender bank n k
  unfolding first_offender
  passes zero k f = omega arith
  passes (suc n) k f =
      rw (f k (le_refl k) (omega arith)) (omega (arith, passes n (suc k) (λ m a b. f m (omega arith) (omega arith))))

  -- and only such a one does: after place k the search goes on, or ends there
  onward : (n k : ℕ) (t : Bool) → valid_at bank k ≡ t
      → (suc k + n ≤ first_offender bank n (suc k) → (m : ℕ) → suc k ≤ m → m < suc k + n → valid_at bank m ≡ true)
      → k + suc n ≤ cond t (first_offender bank n (suc k)) k → (m : ℕ) → k ≤ m → m < k + suc n → valid_at bank m ≡ true
  onward n k true e rest h m a b =
      ⊎_elim (λ (q : k ≡ m). subst (λ (m : ℕ). valid_at bank m ≡ true) q e) (λ l. rest (omega arith) m l (omega arith)) (eq-or-lt_of_le a)
  onward n k false e rest h m a b = absurd (omega arith)

  passed : (n k : ℕ) → k + n ≤ first_offender bank n k → (m : ℕ) → k ≤ m → m < k + n → valid_at bank m ≡ true
  unfolding first_offender
  passed zero k h m a b = absurd (omega arith)
  passed (suc n) k h m a b = onward n k (valid_at bank k) refl (passed n (suc k)) h m a b

  -- every filter of every APS has one of the 64 places
  places : all_below 64 (valid_at bank) ≡ cross_filters_valid bank
  unfolding valid_at cross_filters_valid
  places =
      same_test _ _
      (λ e. at_all 8 _ (λ aps ha. at_all 2 _ (λ component hc. at_all 4 _ (λ filter hf.
      let n : ℕ = 8 * aps + (4 * component + filter) in
      let a : n / 8 ≡ aps = omega arith in
      let b : n % 8 / 4 ≡ component = omega arith in
      let c : n % 4 ≡ filter = omega arith in
      let valid : cross_filter_valid bank (n / 8) (n % 8 / 4) (n % 4) ≡ true = all_at 64 (valid_at bank) e n (omega arith) in
      rw (a, b, c) at valid))))
      (λ e. at_all 64 (valid_at bank) (λ n h.
      all_at 4 (cross_filter_valid bank (n / 8) (n % 8 / 4))
      (all_at 2 _ (all_at 8 _ e (n / 8) (omega arith)) (n % 8 / 4) (omega arith)) (n % 4) (omega arith)))

  -- a search from the first place comes behind all places exactly where every filter passes
  pub search_all : leb 64 (next_offender bank 0) ≡ cross_filters_valid bank
  search_all =
      same_test _ (all_below 64 (valid_at bank))
      (λ e. at_all 64 _ (λ m h. passed 64 0 (leb-true 64 (next_offender bank 0) e) m (omega arith) h))
      (λ e. le-leb 64 _ (passes 64 0 (λ m a b. all_at 64 _ e m b)))
      ∙ places

  -- it finds nothing there exactly where every filter passes
  pub search_none : is_none (found_at (next_offender bank 0)) ≡ cross_filters_valid bank
  search_none = by_test (ltb (next_offender bank 0) 64) refl
    where
      by_test : (t : Bool) → ltb (next_offender bank 0) 64 ≡ t → is_none (found_at (next_offender bank 0)) ≡ cross_filters_valid bank
      by_test true e = rw e (sym (lt-leb 64 (next_offender bank 0) (ltb-true _ 64 e)) ∙ search_all)
      by_test false e = rw e (sym (le-leb 64 (next_offender bank 0) (ltb-false _ 64 e)) ∙ search_all)
