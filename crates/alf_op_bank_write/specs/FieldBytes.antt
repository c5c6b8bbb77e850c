-- The bytes of a filter's field, and what the writer's functions ask of a filter. Assumes nothing.
use Rattle.std.specs.Prelude.{◌≡◌, true, List, ◌∷◌, ℕ, ◌+◌, ◌<◌, ◌≤◌, ℤ, pos, nat_abs, length}
use Rattle.alf_spec.specs.Faults.{coeff_valid}
use Rattle.alf_bank.specs.declared.FilterId.{FilterId}
use Rattle.alf_bank.specs.Filters.{shape_of, size_of, count_of, leads_of, start_of}
use Rattle.alf_bank.specs.Writing.{filter_number, filter_value}

-- tag, length and leading numbers
unfoldable pub head_of : FilterId → List ℕ
head_of i = i.tag ∷ 0 ∷ size_of (shape_of i.tag) ∷ leads_of i

-- the field of a filter that is not all zero
unfoldable pub field_bytes : List ℤ → FilterId → List ℕ
field_bytes bank i = i.tag ∷ 0 ∷ size_of (shape_of i.tag) ∷ filter_value bank i

-- the numbers of a filter are in the bank, the coefficients fit a byte, and the clips are not negative
pub record Writable (bank : List ℤ) (i : FilterId) : Type 0 where
  pub fits : start_of i + count_of (shape_of i.tag) ≤ length bank
  pub coeffs : (j : ℕ) → j < (shape_of i.tag).coeffs → coeff_valid (filter_number bank i j) ≡ true
  pub clips : (j : ℕ) → j < (shape_of i.tag).clips
      → pos (nat_abs (filter_number bank i ((shape_of i.tag).coeffs + j))) ≡ filter_number bank i ((shape_of i.tag).coeffs + j)
  pub small : (j : ℕ) → j < (shape_of i.tag).clips → nat_abs (filter_number bank i ((shape_of i.tag).coeffs + j)) ≤ 4096
