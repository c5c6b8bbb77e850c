-- The samples before the x-th are corrected.
use Rattle.alf_lists.specs.Regions.{between}
use Rattle.alf_lists.proofs.Painted.{Paint}
use Rattle.alf_cross.specs.Taps.{row_sample}
use Rattle.alf_cross.proofs.kernel.cross_row.Given as goal

abbrev pub invariant-loop-x : goal.invariant-loop-x
invariant-loop-x l =
    let s = l.source in
    Paint l.initial.output (between l.row.from l.x) (row_sample s.split.now l.row.starts s.coeffs s.depth s.chroma.now l.row.from) l.output
