use Rattle.alf_lists.specs.Regions.{between}
use Rattle.alf_lists.proofs.Painted.{Paint}
use Rattle.alf_luma.specs.Kernel.{row_from}
use Rattle.alf_luma.proofs.kernel.luma_row.Given as goal

-- the columns before x are filtered
abbrev pub invariant-loop-x : goal.invariant-loop-x
invariant-loop-x l =
    let s = l.source in
    Paint l.initial.output (between l.from l.x) (row_from s.depth s.shift s.copy.now s.taps.now s.starts l.from) l.output
