use Rattle.std.proofs.Common.{◌≡◌, ◌+◌, ◌-◌, ap, ◌∙◌, arith}
use Rattle.alf_lists.proofs.Painted.{paint_is, paint_none, paint_set}
use Rattle.alf_lists.proofs.Regions.{run_none, run_more}
use Rattle.alf_luma.specs.Kernel.{filtered_at}
use Rattle.alf_luma.proofs.RowReads.{fewer}
use Rattle.alf_luma.proofs.kernel.luma_row.Goals as goal

pub loop-x-init : goal.loop-x-init
loop-x-init c = paint_none (run_none _)

pub luma_at-requires : goal.luma_at-requires
luma_at-requires c = (fewer c.requires.0 (omega arith), omega arith)

pub loop-x-preserved : goal.loop-x-preserved
loop-x-preserved c =
    let s = c.args.source.now in
    let column : c.loop-x.x ≡ c.args.from + c.loop-x.x - c.args.from = omega arith in
    paint_set _ _ c.loop-x.invariant (omega arith)
    (c.luma_at.ensures ∙ ap (filtered_at s.depth s.shift s.copy.now s.taps.now s.starts) column) (λ k h. run_more _ _ k)

pub returns : goal.returns
returns c = let done : c.loop-x.x ≡ c.args.n = omega arith in paint_is (rw done at c.loop-x.invariant)
