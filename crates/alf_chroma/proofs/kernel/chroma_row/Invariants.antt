-- The samples of the columns before x are written.
use Rattle.alf_lists.specs.Regions.{between}
use Rattle.alf_lists.proofs.Painted.{Paint}
use Rattle.alf_chroma.specs.Samples.{chroma_copy_sample_from}
use Rattle.alf_chroma.proofs.kernel.chroma_row.Given as goal

abbrev pub invariant-loop-x : goal.invariant-loop-x
invariant-loop-x l =
    let s = l.source in
    Paint l.initial.output (between l.from l.x) (chroma_copy_sample_from s.copy.now s.starts s.taps.now s.shift s.depth l.from) l.output
