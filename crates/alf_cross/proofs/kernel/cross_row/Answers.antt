-- The samples before the x-th are corrected. Assumes nothing.
use Rattle.std.proofs.Common.{◌≡◌, ◌+◌, ◌-◌, arith}
use Rattle.alf_lists.proofs.Painted.{paint_is, paint_none, paint_set}
use Rattle.alf_lists.proofs.Regions.{run_none, run_more}
use Rattle.alf_cross.specs.Taps.{row_sample}
use Rattle.alf_cross.proofs.kernel.cross_row.Goals as goal

pub loop-x-init : goal.loop-x-init
loop-x-init c = paint_none (run_none _)

pub loop-x-preserved : goal.loop-x-preserved
unfolding row_sample
loop-x-preserved c =
    let own : c.args.row.from + c.loop-x.x - c.args.row.from ≡ c.loop-x.x = omega arith in
    paint_set _ _ c.loop-x.invariant (omega arith) (rw own c.cross_at.ensures) (λ k h. run_more _ _ k)

pub returns : goal.returns
returns c = let all : c.loop-x.x ≡ c.args.row.n = omega arith in rw all at (paint_is c.loop-x.invariant)
