use Rattle.std.proofs.Common.{◌≡◌, arith}
use Rattle.alf_lists.proofs.Painted.{paint_is, paint_none, paint_set}
use Rattle.alf_lists.proofs.Regions.{run_none, run_more}
use Rattle.alf_pieces.proofs.CopyRows.{side_value}
use Rattle.alf_pieces.proofs.copies.copy_side.Goals as goal

pub loop-k-init : goal.loop-k-init
loop-k-init c = paint_none (λ k. run_none _ k)

pub loop-k-preserved : goal.loop-k-preserved
loop-k-preserved c =
    paint_set _ _ c.loop-k.invariant (omega arith)
    (side_value _ _ _ _ _ _ _ c.position.ensures c.held-column.ensures (omega arith))
    (λ k _. run_more _ _ k)

pub returns : goal.returns
returns c =
    let all : c.loop-k.k ≡ 3 = omega arith in
    rw all at (paint_is c.loop-k.invariant)
