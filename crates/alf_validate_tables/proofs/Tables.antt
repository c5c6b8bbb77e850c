-- What the judge of a filter's tables judges. Assumes nothing.
use Rattle.std.proofs.Common.{◌≡◌, refl, sym, ◌∙◌, ap, ℕ, Bool, length, ltb}
use Rattle.alf_spec.specs.declared.Filter.{Filter}
use Rattle.alf_spec.specs.declared.Filter.TheVariants.{Luma, Chroma, CrossComponent}
use Rattle.alf_spec.specs.Lists.{every}
use Rattle.alf_spec.specs.Input.{Input}
use Rattle.alf_spec.specs.Filters.{operation_of}
use Rattle.alf_spec.specs.Geometry.{total_ctbs}
use Rattle.alf_spec.specs.Faults.{addresses_valid, tables_fault}
use Rattle.alf_validate_tables.specs.Tables.{filter_tables_fault}

-- these are the causes of the filter's operation
pub tables_fault_lem : (f : Filter) (i : Input) → filter_tables_fault f i ≡ tables_fault (operation_of f) i
unfolding filter_tables_fault tables_fault
tables_fault_lem Luma i = refl
tables_fault_lem (Chroma component) i = refl
tables_fault_lem (CrossComponent component) i = refl

-- where the slice map has an entry for each CTB, its length serves for the number of CTBs
pub by_map : (i : Input) (r : Bool) → r ≡ every (λ n. ltb n (length i.layout.slice_map)) i.ctb_list
    → length i.layout.slice_map ≡ total_ctbs i.layout → addresses_valid i ≡ r
unfolding addresses_valid
by_map i r e full = ap (λ (n : ℕ). every (λ a. ltb a n) i.ctb_list) (sym full) ∙ sym e
