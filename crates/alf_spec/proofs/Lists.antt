-- Laws of the lists in `specs/Lists`: what stands in a table, in a list with entries written anew, and in a list that is tested for it; and
-- of sums. Assumes nothing.
use mathlib.Core.Path.{◌≡◌, refl, ap, ap₂}
use mathlib.Core.Bool.{Bool, true, false, cond, or-true, false≢true}
use mathlib.Core.Logic.{⊎_elim, by_cases}
use mathlib.Core.List.Memᴰ
use mathlib.Core.List.{List, [], ◌∷◌, map, Memᴰ}
use Prim.Native.Nat.{ℕ, zero, suc, ◌+◌, ◌<◌, suc-le-suc}
use native.Mathlib.Nat.{not-suc-le-zero, le_of_suc-le-suc, zero-lt-suc}
use native.Mathlib.Decide.{ℕ_discrete}
use native.Mathlib.Omega.{arith}
use lib.ListN.{length, get_or}
use lib.IntN.{ℤ, ◌+ℤ◌}
use borrow.Author.Tests.{eq-eqb, ne_eqb}
use Rattle.alf_spec.specs.Lists.{elem, sum_below, sum_below_ℤ, tabulate, painted}
use Rattle.alf_spec.proofs.Tests.{never}

pub tabulate-at : (n : ℕ) (f : ℕ → ℕ) (k : ℕ) → k < n → get_or (tabulate n f) k 0 ≡ f k
unfolding tabulate
tabulate-at zero f k h = absurd (not-suc-le-zero h)
tabulate-at (suc n) f zero h = refl
tabulate-at (suc n) f (suc k) h = tabulate-at n (λ k. f (suc k)) k (le_of_suc-le-suc h)

pub tabulate-same : (n : ℕ) (f g : ℕ → ℕ) → ((k : ℕ) → k < n → f k ≡ g k) → tabulate n f ≡ tabulate n g
unfolding tabulate
tabulate-same zero f g e = refl
tabulate-same (suc n) f g e = λ t. e zero (zero-lt-suc n) t ∷ tabulate-same n (λ k. f (suc k)) (λ k. g (suc k))
    (λ k h. e (suc k) (suc-le-suc h)) t

pub sum_same : (n : ℕ) (f g : ℕ → ℕ) → ((k : ℕ) → k < n → f k ≡ g k) → sum_below n f ≡ sum_below n g
unfolding sum_below
sum_same zero f g e = refl
sum_same (suc n) f g e = ap₂ (λ (a b : ℕ). a + b) (sum_same n f g (λ k h. e k (omega arith))) (e n (omega arith))

pub sum_sameℤ : (n : ℕ) (f g : ℕ → ℤ) → ((k : ℕ) → k < n → f k ≡ g k) → sum_below_ℤ n f ≡ sum_below_ℤ n g
unfolding sum_below_ℤ
sum_sameℤ zero f g e = refl
sum_sameℤ (suc n) f g e = ap₂ (λ (a b : ℤ). a +ℤ b) (sum_sameℤ n f g (λ k h. e k (omega arith))) (e n (omega arith))

pub painted-at : (xs : List ℕ) (test : ℕ → Bool) (value : ℕ → ℕ) (k : ℕ) → k < length xs
    → get_or (painted xs test value) k 0 ≡ cond (test k) (value k) (get_or xs k 0)
unfolding painted
painted-at [] test value k h = absurd (not-suc-le-zero h)
painted-at (x ∷ xs) test value zero h = refl
painted-at (x ∷ xs) test value (suc k) h = painted-at xs (λ k. test (suc k)) (λ k. value (suc k)) k (le_of_suc-le-suc h)

pub tabulate-length : (n : ℕ) (f : ℕ → ℕ) → length (tabulate n f) ≡ n
unfolding tabulate
tabulate-length zero f = refl
tabulate-length (suc n) f = ap suc (tabulate-length n (λ k. f (suc k)))

pub painted-length : (xs : List ℕ) (test : ℕ → Bool) (value : ℕ → ℕ) → length (painted xs test value) ≡ length xs
unfolding painted
painted-length [] test value = refl
painted-length (x ∷ xs) test value = ap suc (painted-length xs (λ k. test (suc k)) (λ k. value (suc k)))

-- ---- what stands in a list, and the test of it

pub mem_elem : (v : ℕ) (us : List ℕ) → Memᴰ v us → elem v us ≡ true
unfolding elem
mem_elem v [] m = absurd (Memᴰ.not-nil m)
mem_elem v (u ∷ us) m = ⊎_elim (λ q. simp (eq-eqb v u q)) (λ w. simp (mem_elem v us w, or-true)) (Memᴰ.cases_cons m)

pub elem_mem : (v : ℕ) (us : List ℕ) → elem v us ≡ true → Memᴰ v us
unfolding elem
elem_mem v [] q = absurd (false≢true q)
elem_mem v (u ∷ us) q = by_cases (ℕ_discrete v u) (λ e. Memᴰ.head e) (λ n. Memᴰ.tail (elem_mem v us (rw (ne_eqb v u n) at q)))

pub no_elem : (v : ℕ) (us : List ℕ) → ¬ Memᴰ v us → elem v us ≡ false
no_elem v us out = never (elem v us) (λ t. out (elem_mem v us t))

-- ---- what holds of each entry

abbrev pub Each : {A : Type 0} → (A → Type 0) → List A → Type 0
Each P [] = Unit
Each P (x ∷ xs) = P x × Each P xs

pub map_same : {A B : Type 0} (P : A → Type 0) (f g : A → B) → ((x : A) → P x → f x ≡ g x) → (xs : List A) → Each P xs → map f xs ≡ map g xs
map_same P f g e [] h = refl
map_same P f g e (x ∷ xs) h = λ t. e x h.0 t ∷ map_same P f g e xs h.1 t
