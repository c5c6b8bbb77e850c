-- What causes 1 to 9 have shown of an input, for the judge of causes 10 to 13, and its answer. Assumes nothing.
use Rattle.std.specs.Prelude.{◌≡◌, true, ◌&&◌, ℕ, ◌*◌, ltb, length}
use Rattle.alf_spec.specs.declared.Filter.{Filter}
use Rattle.alf_spec.specs.Lists.{implies, every}
use Rattle.alf_spec.specs.Input.{given, Input}
use Rattle.alf_spec.specs.Filters.{operation_of}
use Rattle.alf_spec.specs.Geometry.{total_ctbs}
use Rattle.alf_spec.specs.Faults.{bit_depth_valid, parameters_valid, bank_valid, fixed_valid, samples_valid, addresses_valid, unless}

-- slice parameters for each slice of the map, and CTB parameters for each CTB
pub record ParametersFit (i : Input) : Type 0 where
  pub slices : every (λ n. ltb n i.layout.picture.slice_count) i.layout.slice_map ≡ true
  pub slice_length : length i.slice_params ≡ 11 * i.layout.picture.slice_count
  pub ctb_length : length i.ctb_params ≡ 8 * length i.layout.slice_map

-- causes 10 to 13 of a filter: each is given the parameters, the bank and the list, so that fixed tables and planes alone depend on it
unfoldable pub filter_tables_fault : Filter → Input → ℕ
filter_tables_fault f i =
    unless (parameters_valid i) 10
    (unless (bank_valid i && implies (given (operation_of f)).fixed (fixed_valid i)) 11
    (unless (implies (given (operation_of f)).luma (samples_valid i.layout.picture i.luma)
    && implies (given (operation_of f)).chroma (samples_valid i.layout.picture i.chroma)) 12
    (unless (addresses_valid i) 13 0)))

-- what an accepted layout and the operation's lengths say, for these causes
pub record TablesFit (i : Input) : Type 0 where
  pub depth : bit_depth_valid i.layout.picture ≡ true
  pub parameters : ParametersFit i
  pub full : length i.layout.slice_map ≡ total_ctbs i.layout
