-- The parameters of a CTB by its address. Assumes nothing.
use Rattle.std.proofs.Common.{◌≡◌, ap, ℕ, ◌+◌, ◌*◌, ◌<◌, length, get_or, ltb, arith, add-zero}
use Rattle.std.proofs.Math.Nat.{div-add-mod'}
use borrow.Author.Tests.{ltb-true}
use Rattle.alf_spec.specs.Input.{Input}
use Rattle.alf_spec.specs.Geometry.{ctb_columns, address, ctb_of}
use Rattle.alf_spec.specs.Boundary.{slice_of}
use Rattle.alf_spec.specs.Parameters.{ctb_param, slice_param}
use Rattle.alf_spec.proofs.Tests.{every-at}
use Rattle.alf_validate_tables.specs.Tables.{ParametersFit}

module _ (i : Input) (k : ℕ) where
  -- the first of a slice's parameters stands in the table
  pub slice_params_fit : ParametersFit i → k < length i.layout.slice_map → 11 * get_or i.layout.slice_map k 0 < length i.slice_params
  slice_params_fit fit h =
      let e = every-at 0 0 (λ _ n. ltb n i.layout.picture.slice_count) i.layout.slice_map fit.slices k h in
      let l = ltb-true (get_or i.layout.slice_map k 0) i.layout.picture.slice_count e in
      omega (arith, fit.slice_length)

  -- the CTB at an address has that address
  same_address : address i.layout (ctb_of i.layout k) ≡ k
  same_address = div-add-mod' k (ctb_columns i.layout)

  pub at_address : (n : ℕ) → ctb_param i (ctb_of i.layout k) n ≡ get_or i.ctb_params (8 * k + n) 0
  unfolding ctb_param
  at_address n = ap (λ (a : ℕ). get_or i.ctb_params (8 * a + n) 0) same_address

  pub of_slice : slice_param i (ctb_of i.layout k) 0 ≡ get_or i.slice_params (11 * get_or i.layout.slice_map k 0) 0
  unfolding slice_param slice_of
  of_slice = rw add-zero (ap (λ (a : ℕ). get_or i.slice_params (11 * get_or i.layout.slice_map a 0) 0) same_address)
