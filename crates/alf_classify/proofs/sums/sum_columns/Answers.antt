use Rattle.std.proofs.Common.{◌≡◌, arith}
use Rattle.alf_lists.proofs.Painted.{paint_is, paint_none, paint_set}
use Rattle.alf_lists.proofs.Regions.{run_none, run_next}
use Rattle.alf_classify.proofs.sums.sum_columns.Goals as goal

pub loop-x-init : goal.loop-x-init
loop-x-init g c = paint_none (run_none _)

pub loop-x-preserved : goal.loop-x-preserved
loop-x-preserved g c = paint_set _ _ c.loop-x.invariant (omega arith) c.column_sum.ensures (λ k h. run_next _ k)

pub returns : goal.returns
returns g c =
    let all : c.loop-x.x ≡ c.args.n = omega arith in
    rw all at (paint_is c.loop-x.invariant)
