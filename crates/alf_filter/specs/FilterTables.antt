-- What a filter reads for a CTB, all of it from one input. Assumes nothing.
use Rattle.std.specs.Prelude.{◌≡◌, true, List, ℕ, ◌*◌, ◌<◌}
use Rattle.alf_spec.specs.declared.Filter.{Filter}
use Rattle.alf_spec.specs.declared.Grid.{Grid}
use Rattle.alf_spec.specs.Input.{Input, with_output}
use Rattle.alf_spec.specs.Geometry.{ctb_size}
use Rattle.alf_spec.specs.Faults.{virtual_list_valid, fault}
use Rattle.alf_spec.specs.Filters.{operation_of}
use Rattle.alf_params.specs.Tables.{CtbTables}
use Rattle.alf_ctb.specs.Tables.{ComponentOf, FixedGiven}
use Rattle.alf_ctb.specs.FilterWork.{PlanesGiven}

-- what judging makes sure of
pub record TablesAccepted (f : Filter) (i : Input) (g : Grid) (orders : List ℕ) : Type 0 where
  pub planes : PlanesGiven f i g orders
  pub virtual_columns : virtual_list_valid i.layout.picture.width (ctb_size i.layout.picture) i.layout.virtual_columns ≡ true
  pub virtual_rows : virtual_list_valid i.layout.picture.height (ctb_size i.layout.picture) i.layout.virtual_rows ≡ true
  pub component : ComponentOf f
  pub ctbs : (k : ℕ) → k < g.columns * g.rows → CtbTables i.layout.slice_map i.slice_params i.bank i.ctb_params k
  pub fixed : FixedGiven f i.layout.picture.bit_depth i.fixed_filters i.fixed_map

-- the input i is accepted, and has what this one has, all but the length of its output
pub record TablesIn (f : Filter) (i own : Input) : Type 0 where
  pub accepted : fault (operation_of f) i ≡ 0
  pub same : with_output 0 i ≡ with_output 0 own
