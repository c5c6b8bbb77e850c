-- The CTBs in a list, one entry of the list after the other. Assumes nothing.
use mathlib.Core.Path.{◌≡◌, refl, sym, ap, ◌∙◌}
use mathlib.Core.Bool.{Bool, true, false, ◌||◌}
use mathlib.Core.List.{List, [], ◌∷◌, ◌++◌}
use Prim.Native.Nat.{ℕ, ◌+◌, ◌<◌}
use native.Mathlib.Numerals.{add-one}
use lib.Dec.{eqb}
use lib.ListN.{length, get_or, take}
use lib.Seq.{take-suc}
use borrow.Author.Tests.{eqb-true, eq-eqb}
use Rattle.alf_spec.specs.Lists.{elem}
use Rattle.alf_spec.proofs.Tests.{same_test}
use Rattle.alf_filter.specs.FilteredCtbs.{is_listed}

eqb_swap : (a b : ℕ) → eqb a b ≡ eqb b a
eqb_swap a b = same_test (eqb a b) (eqb b a) (λ t. eq-eqb b a (sym (eqb-true a b t))) (λ t. eq-eqb a b (sym (eqb-true b a t)))

or_assoc : (a b c : Bool) → (a || (b || c)) ≡ ((a || b) || c)
or_assoc true b c = refl
or_assoc false b c = refl

or-false : (a : Bool) → (a || false) ≡ a
or-false true = refl
or-false false = refl

elem-last : (k : ℕ) (xs : List ℕ) (y : ℕ) → elem k (xs ++ (y ∷ [])) ≡ (elem k xs || eqb y k)
unfolding elem
elem-last k [] y = or-false (eqb k y) ∙ eqb_swap k y
elem-last k (x ∷ xs) y = ap (λ (b : Bool). eqb k x || b) (elem-last k xs y) ∙ or_assoc (eqb k x) (elem k xs) (eqb y k)

pub none_listed : (k : ℕ) → is_listed [] k ≡ false
unfolding is_listed elem
none_listed k = refl

-- one entry more, whose address is y
pub one_listed : (xs : List ℕ) (j : ℕ) → j < length xs → {y : ℕ} → y ≡ get_or xs j 0 → (k : ℕ)
    → is_listed (take (j + 1) xs) k ≡ (is_listed (take j xs) k || eqb y k)
unfolding is_listed
one_listed xs j h e k = rw (e, add-one, take-suc xs j 0 h) (elem-last k (take j xs) (get_or xs j 0))
