-- The copy, split or as it is, holds the taps of the piece's samples. Assumes nothing.
use Rattle.std.proofs.Common.{◌≡◌, ◌%◌, ◌≤◌, length, refl, ◌∙◌, arith}
use Rattle.alf_spec.specs.Geometry.{sub_width}
use Rattle.alf_spec.proofs.Ratios.{half}
use Rattle.alf_pieces.specs.Copies.{pitch, copy_length}
use Rattle.alf_lists.proofs.Painted.{paint_is, paint_of, paint_same}
use Rattle.alf_pieces.proofs.CopySamples.{copy_small}
use Rattle.alf_pieces.proofs.CopyRooms.{copy_fits, rows_fit}
use Rattle.alf_cross.specs.Pieces.{SmallCopy}
use Rattle.alf_cross.proofs.SplitColumns.{unsplit, split_small}
use Rattle.alf_cross.proofs.PieceSamples.{sample_same}
use Rattle.alf_cross.proofs.piece.filter_piece.Goals as goal
use Rattle.alf_cross.proofs.piece.filter_piece.Goals.{Start, After-copy_piece}

pub copy_piece-requires : goal.copy_piece-requires
copy_piece-requires c =
    let across = c.requires.1.numbers in
    let down = c.requires.2.numbers in
    (across, down.low, down.filled, down.high, rows_fit _ down c.requires.0.luma_length, copy_fits across down c.requires.0.copy_room)

-- the copy has room, and the split copy
room : (c : Start) → let a = c.args in
    (copy_length a.columns a.rows ≤ length a.copy.now) × (copy_length a.columns a.rows ≤ length a.split.now)
room c =
    let across = c.requires.1.numbers in
    let down = c.requires.2.numbers in
    (copy_fits across down c.requires.0.copy_room, copy_fits across down c.requires.0.split_room)

-- a row of the copy has as many even columns as odd ones
even : (c : Start) → pitch c.args.columns % 2 ≡ 0
even c = let across = c.requires.1 in let filled = across.numbers.filled in omega (arith, across.start4, across.end4)

-- what the copy holds are samples
copied : (c : After-copy_piece) → let a = c.args in
    copy_length a.columns a.rows ≤ length a.copy.now → SmallCopy c.copy_piece.new.copy (copy_length a.columns a.rows)
copied c fits =
    let copies = c.copy_piece.ensures in
    record {
      room = rw (paint_of copies).len fits;
      small = copy_small _ _ _ _ _ _ _ copies fits 4096 c.requires.0.luma_samples;
    }

pub split_rows-requires : goal.split_rows-requires
split_rows-requires c =
    let start = (goal.at.split_rows-requires c).Start in
    rw (c.extent.ensures, c.extent-then-sub_width-eq2.ensures)
    (even start, rw (paint_of c.copy_piece.ensures).len (room start).0, (room start).1)

pub piece_rows-requires : goal.piece_rows-requires
piece_rows-requires c =
    let at = goal.at.piece_rows-requires c in
    let fits = room at.Start in
    let split = rw (c.extent.ensures, c.extent-then-sub_width-eq2.ensures) at c.split_rows.ensures in (
      c.requires.0.planes,
      split_small half (omega arith) (even at.Start) split (copied at.After-copy_piece fits.0)
          (omega (arith, fits.1, c.split_rows.auto.split)),
    )

pub piece_rows-requires-else-sub_width-eq2 : goal.piece_rows-requires-else-sub_width-eq2
piece_rows-requires-else-sub_width-eq2 c =
    let at = goal.at.piece_rows-requires-else-sub_width-eq2 c in
    (c.requires.0.planes, copied at.After-copy_piece (room at.Start).0)

pub returns-then-sub_width-eq2 : goal.returns-then-sub_width-eq2
returns-then-sub_width-eq2 c =
    let at = goal.at.returns-then-sub_width-eq2 c in
    let split = rw (c.extent.ensures, c.extent-then-sub_width-eq2.ensures, ← c.if-sub_width-eq2.true, c.sub_width.ensures.0) at
    c.split_rows.ensures in
    λ i ctb component of luma chroma filter across down.
    paint_is (paint_same (paint_of c.piece_rows.ensures) (λ k h. refl)
    (λ k h. sample_same of c.requires.0.planes.picture.grid filter across down luma chroma _ _ _ c.copy_piece.ensures (room at.Start).0
    split k))

pub returns-else-sub_width-eq2 : goal.returns-else-sub_width-eq2
returns-else-sub_width-eq2 c =
    let at = goal.at.returns-else-sub_width-eq2 c in
    λ i ctb component of luma chroma filter across down.
    paint_is (paint_same (paint_of c.piece_rows-else-sub_width-eq2.ensures) (λ k h. refl)
    (λ k h. sample_same of c.requires.0.planes.picture.grid filter across down luma chroma _ _ _ c.copy_piece.ensures (room at.Start).0
    (unsplit _ _ _ _ (λ (e : sub_width c.args.picture ≡ 2). c.if-sub_width-eq2.false (c.sub_width.ensures.0 ∙ e))) k))
