use Rattle.alf_spec.specs.Filters.{operation_of}
use Rattle.alf_spec.specs.Input.{Input}
use Rattle.alf_spec.specs.Process.{at_index, output_plane}
use Rattle.alf_lists.proofs.Painted.{Paint}
use Rattle.alf_pieces.specs.CtbRegions.{before_ctb_if}
use Rattle.alf_sides.specs.Planned.{SidesPlanned}
use Rattle.alf_taps.specs.Spread.{TapNumbers}
use Rattle.alf_ctb.specs.Filters.{sample_of}
use Rattle.alf_filter.specs.FilterTables.{TablesIn}
use Rattle.alf_filter.specs.FilteredCtbs.{is_marked}
use Rattle.alf_filter.proofs.ctbs.filter_marked.Given as goal

-- the marked CTBs before address k are filtered
abbrev pub invariant-loop-k : goal.invariant-loop-k
invariant-loop-k l = record {
  numbers : TapNumbers l.taps;
  painted : (i : Input) → TablesIn l.filter i l.input → SidesPlanned i.layout l.sides
      → let plane = output_plane (operation_of l.filter) i.layout in
      Paint l.initial.output (before_ctb_if i.layout plane (is_marked l.marks) l.k) (at_index plane (sample_of l.filter i)) l.output;
}
