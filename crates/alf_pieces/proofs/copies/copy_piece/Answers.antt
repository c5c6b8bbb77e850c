use Rattle.std.proofs.Common.{◌≡◌, ◌+◌, ◌*◌, ◌≤◌, length, zero-mul, arith}
use Rattle.alf_pieces.specs.Copies.{pitch}
use Rattle.alf_lists.proofs.Painted.{paint_is, paint_none, paint_call}
use Rattle.alf_lists.proofs.Regions.{run_none, run_join, row_room}
use Rattle.alf_pieces.proofs.CopyRows.{row_value, row_within}
use Rattle.alf_pieces.proofs.copies.copy_piece.Goals as goal

pub loop-j-init : goal.loop-j-init
loop-j-init c = rw zero-mul (paint_none (λ k. run_none _ k))

-- the row that a turn writes lies in the piece's range, and there is room for it
pub copy_row-requires : goal.copy_row-requires
copy_row-requires c =
    let within = row_within _ c.args.rows c.args.sides _ c.loop-j.j c.requires.0 (omega arith) c.requires.4 in
    let room : c.loop-j.j * (c.extent-n.result + 6) + (c.extent-n.result + 6) ≤ length c.loop-j.copy =
    row_room _ (pitch c.args.rows) _ _ (omega arith) (rw c.extent-n.ensures (omega (arith, c.requires.5))) in
    (rw (c.row_range-range.ensures, c.extent-n.ensures) within, room)

pub loop-j-preserved : goal.loop-j-preserved
loop-j-preserved c =
    paint_call _ _ c.loop-j.invariant (rw (c.row_range-range.ensures, c.extent-n.ensures) at c.copy_row.ensures)
    (λ k _ t. row_value _ _ _ _ _ _ k t) (λ k _. run_join _ _ _ _ _ _ (omega arith) k)

pub returns : goal.returns
returns c =
    let all : c.loop-j.j ≡ pitch c.args.rows = omega arith in
    rw all at (paint_is c.loop-j.invariant)
