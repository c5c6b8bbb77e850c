use Rattle.std.proofs.Common.{◌≡◌, arith}
use Rattle.alf_lists.proofs.Painted.{paint_is, paint_none, paint_set}
use Rattle.alf_lists.proofs.Regions.{run_none, run_more}
use Rattle.alf_pieces.proofs.CopyRows.{run_value}
use Rattle.alf_pieces.proofs.copies.copy_run.Goals as goal

pub loop-i-init : goal.loop-i-init
loop-i-init c = paint_none (λ k. run_none _ k)

pub loop-i-preserved : goal.loop-i-preserved
loop-i-preserved c = paint_set _ _ c.loop-i.invariant (omega arith) (run_value _ _ _ _) (λ k _. run_more _ _ k)

pub returns : goal.returns
returns c =
    let all : c.loop-i.i ≡ c.args.n = omega arith in
    rw all at (paint_is c.loop-i.invariant)
