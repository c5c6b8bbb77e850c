-- The samples of the columns before x are written. Assumes nothing.
use Rattle.std.proofs.Common.{◌≡◌, ◌+◌, ◌-◌, ap, ◌∙◌, arith}
use Rattle.alf_lists.proofs.Painted.{paint_is, paint_none, paint_set}
use Rattle.alf_lists.proofs.Regions.{run_none, run_more}
use Rattle.alf_chroma.specs.Samples.{chroma_copy_sample}
use Rattle.alf_chroma.proofs.kernel.chroma_row.Goals as goal

pub loop-x-init : goal.loop-x-init
loop-x-init c = paint_none (run_none _)

pub loop-x-preserved : goal.loop-x-preserved
loop-x-preserved c =
    let s = c.args.source.now in
    let here : c.loop-x.x ≡ c.args.from + c.loop-x.x - c.args.from = omega arith in
    paint_set _ _ c.loop-x.invariant (omega arith)
    (c.chroma_at.ensures ∙ ap (chroma_copy_sample s.copy.now s.starts s.taps.now s.shift s.depth) here) (λ k h. run_more _ _ k)

pub returns : goal.returns
returns c = let all : c.loop-x.x ≡ c.args.n = omega arith in rw all at (paint_is c.loop-x.invariant)
