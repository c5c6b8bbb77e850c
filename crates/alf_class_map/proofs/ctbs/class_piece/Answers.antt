use Rattle.std.proofs.Common.{refl, ◌≤◌, length, arith}
use Rattle.alf_pieces.specs.Copies.{copy_length}
use Rattle.alf_lists.proofs.Painted.{paint_is, paint_of, paint_same}
use Rattle.alf_pieces.proofs.CopySamples.{copy_small}
use Rattle.alf_pieces.proofs.CopyRooms.{copy_fits}
use Rattle.alf_classify.proofs.PieceRows.{blocks}
use Rattle.alf_classify.proofs.PieceClasses.{class_same}
use Rattle.alf_class_map.proofs.ClassInputs.{own_map}
use Rattle.alf_class_map.proofs.ctbs.class_piece.Goals as goal

-- the copy holds samples, and the picture's own map has room for the piece
pub piece_classes-requires : goal.piece_classes-requires
piece_classes-requires c =
    let room : copy_length c.args.columns c.args.rows ≤ length c.args.rooms.now.copy =
    copy_fits c.requires.1.numbers c.requires.2.numbers (omega arith) in (
      record { picture = c.args.frame.accepted; copy_room = omega arith; difference_room = omega arith },
      c.requires.1,
      c.requires.2,
      copy_small _ _ _ _ _ _ _ c.copy_piece.ensures room 4096 c.requires.0.samples,
      own_map c.args.frame.accepted c.requires.0 c.requires.1 c.requires.2,
    )

-- the copy holds the windows of the piece's blocks
pub returns : goal.returns
returns c =
    let room : copy_length c.args.columns c.args.rows ≤ length c.args.rooms.now.copy =
    copy_fits c.requires.1.numbers c.requires.2.numbers (omega arith) in
    let written = rw ((blocks c.requires.1).last, (blocks c.requires.2).last) at c.piece_classes.ensures in
    λ l ctb of across down.
    paint_is (paint_same (paint_of written) (λ k h. refl)
    (λ k h. class_same of c.args.frame.accepted.grid across down _ _ _ c.copy_piece.ensures room k))
