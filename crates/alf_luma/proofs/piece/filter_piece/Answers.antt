use Rattle.std.proofs.Common.{◌≤◌, length, refl, ◌∙◌, arith}
use Rattle.alf_pieces.specs.Copies.{area}
use Rattle.alf_lists.proofs.Painted.{paint_is, paint_of, paint_same}
use Rattle.alf_pieces.proofs.CopySamples.{copy_small}
use Rattle.alf_pieces.proofs.CopyRooms.{copy_fits, rows_fit}
use Rattle.alf_classify.proofs.PieceRows.{blocks}
use Rattle.alf_luma.proofs.PieceSamples.{map_of, samples-same}
use Rattle.alf_luma.proofs.piece.filter_piece.Goals as goal

pub copy_piece-requires : goal.copy_piece-requires
copy_piece-requires c =
    let across = c.requires.1.numbers in
    let down = c.requires.2.numbers in
    (across, down.low, down.filled, down.high, rows_fit _ down c.requires.0.luma_length, copy_fits across down (omega arith))

pub piece_classes-requires : goal.piece_classes-requires
piece_classes-requires c =
    let pre = c.requires in
    let columns = blocks pre.1 in
    let rows = blocks pre.2 in
    let large : area ≤ length c.args.copy.now = omega arith in (
      record {
        picture = pre.0.blocks.picture;
        copy_room = rw (paint_of c.copy_piece.ensures).len large;
        difference_room = omega arith;
      },
      pre.1,
      pre.2,
      copy_small _ _ _ _ _ _ _ c.copy_piece.ensures (copy_fits pre.1.numbers pre.2.numbers large) 4096 pre.0.samples,
      record {
        narrow = omega arith;
        short = omega (arith, rows.few);
        across = omega (arith, columns.few);
        down = omega (arith, rows.few);
      },
    )

pub invariant_of-piece : goal.invariant_of-piece
invariant_of-piece c = record { accepted = c.requires.0.blocks.picture; across = c.requires.1; down = c.requires.2 }

pub filter_copy-requires : goal.filter_copy-requires
filter_copy-requires c =
    let pre = c.requires in
    let large : area ≤ length c.args.copy.now = omega arith in
    let room = copy_fits pre.1.numbers pre.2.numbers large in (
      pre.0.blocks,
      record {
        room = rw (paint_of c.copy_piece.ensures).len room;
        samples = copy_small _ _ _ _ _ _ _ c.copy_piece.ensures room 4096 pre.0.samples;
      },
      (paint_of c.piece_classes.ensures).len ∙ refl,
      map_of _ _ _ _ _ _ c.piece_classes.ensures refl (blocks pre.1).few (blocks pre.2).few,
    )

pub returns : goal.returns
returns c =
    let pre = c.requires in
    let done = c.filter_copy.ensures in
    let large : area ≤ length c.args.copy.now = omega arith in
    let room = copy_fits pre.1.numbers pre.2.numbers large in (
      (λ i ctb of same own across down.
          paint_is (paint_same (paint_of done.0) (λ k h. refl)
          (λ k h t. samples-same of pre.0.blocks.picture.grid across down _ _ same c.copy_piece.ensures room _ own k t))),
      done.1,
    )
