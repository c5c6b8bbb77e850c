use Rattle.std.proofs.Common.{◌≡◌, ◌-◌, pred, arith}
use Rattle.alf_pieces.proofs.PieceScan.{piece_is}
use Rattle.alf_pieces.proofs.PieceWalk.{walk_block, turn}
use Rattle.alf_pieces.proofs.pieces.piece_at.Goals as goal

-- a block is left
pub piece_end-end-requires : goal.piece_end-end-requires
piece_end-end-requires c = walk_block c.requires.0 c.requires.1 c.requires.2

pub returns : goal.returns
returns c =
    let last : c.piece_end-end.result - 1 ≡ pred c.piece_end-end.result = omega arith in
    turn c.requires.0 c.requires.1 c.requires.2
    (piece_is _ _ _ c.find_clip-lower.result c.find_clip-upper.result c.piece_end-end.ensures.2 last
    (c.find_clip-lower.ensures 1) (c.find_clip-upper.ensures 1) c.bound.ensures c.bound-2.ensures)
