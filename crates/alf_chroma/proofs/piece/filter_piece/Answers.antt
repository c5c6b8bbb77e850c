-- The copy holds what the taps of the piece's samples read. Assumes nothing.
use Rattle.std.proofs.Common.{◌≤◌, length, refl, rules}
use Rattle.alf_pieces.specs.Copies.{copy_length}
use Rattle.alf_lists.proofs.Painted.{paint_is, paint_of, paint_same}
use Rattle.alf_pieces.proofs.CopySamples.{copy_small}
use Rattle.alf_pieces.proofs.CopyRooms.{copy_fits, rows_fit}
use Rattle.alf_chroma.proofs.PieceSamples.{columns-wide, sample_same}
use Rattle.alf_chroma.proofs.piece.filter_piece.Goals as goal
use Rattle.alf_chroma.proofs.piece.filter_piece.Goals.{Start}

-- the copy has room
room : (c : Start) → let a = c.args in copy_length a.columns a.rows ≤ length a.copy.now
room c = copy_fits c.requires.1 c.requires.2 c.requires.0.copy_room

pub copy_piece-requires : goal.copy_piece-requires
copy_piece-requires c =
    let W = c.requires.0 in
    let across = c.requires.1 in
    let down = c.requires.2 in
    rw c.sub_width.ensures.0
    (across, down.low, down.filled, down.high, rows_fit _ down W.chroma_length, copy_fits across down W.copy_room)

pub filter_rows-requires : goal.filter_rows-requires
filter_rows-requires c =
    let start : Start = search rules in
    let copies = c.copy_piece.ensures in
    let W = c.requires.0 in
    record {
      picture = W.picture;
      across = c.requires.1;
      down = c.requires.2;
      copy_room = rw (paint_of copies).len (room start);
      samples = copy_small _ _ _ _ _ _ _ copies (room start) 4096 W.samples;
      numbers = c.spread.ensures.1;
      output_length = W.output_length;
    }

pub returns : goal.returns
returns c =
    let start : Start = search rules in (
      λ i ctb component of plane filter across down.
          let wide = columns-wide i.layout of.picture c.sub_width.ensures.0 in
          let S = rw c.extent.ensures at c.spread.ensures.0 in
          paint_is (paint_same (paint_of c.filter_rows.ensures) (λ k h. refl)
          (λ k h. sample_same i of across down _ _ wide (rw (← plane) at c.copy_piece.ensures) (room start) component
          c.requires.0.picture.grid filter S k)),
      c.spread.ensures.1,
    )
