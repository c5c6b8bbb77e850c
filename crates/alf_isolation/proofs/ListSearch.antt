-- Whether a number stands in a list, as std's chains have it. Assumes nothing.
use Rattle.std.proofs.Common.{◌≡◌, refl, ap, ◌||◌, List, [], ◌∷◌, ℕ, eqb}
use Rattle.std.specs.List.{list_any}
use Rattle.alf_spec.specs.Lists.{elem}

-- a number stands in a list where it equals one of the entries
pub elem_any : (a : ℕ) (xs : List ℕ) → list_any (λ x. eqb a x) xs ≡ elem a xs
unfolding elem
elem_any a [] = refl
elem_any a (x ∷ xs) = ap (λ b. eqb a x || b) (elem_any a xs)
