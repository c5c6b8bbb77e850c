-- The copy of a piece, as `copy_piece` leaves it, holds for a sample of the piece its neighbours in reach: those that `alf_spec` reads.
-- Assumes nothing.
use mathlib.Core.Path.{◌≡◌, sym, ap, ◌∙◌}
use mathlib.Core.List.{List}
use Prim.Native.Nat.{ℕ, ◌+◌, ◌-◌, ◌*◌, ◌≤◌, ◌<◌}
use lib.ListN.{length, get_or}
use Rattle.alf_spec.specs.declared.Ctb.{Ctb}
use Rattle.alf_spec.specs.declared.Picture.{Picture}
use Rattle.alf_spec.specs.declared.Sides.{Sides}
use Rattle.alf_spec.specs.Lists.{painted}
use Rattle.alf_spec.specs.Input.{Layout}
use Rattle.alf_spec.specs.Geometry.{plane_of, samples}
use Rattle.alf_spec.specs.Boundary.{column_side, row_side}
use Rattle.alf_spec.specs.Padding.{read}
use Rattle.alf_spec.proofs.Ratios.{Ratio}
use Rattle.alf_pieces.specs.declared.pieces.Piece.{Piece}
use Rattle.alf_lists.specs.Regions.{between}
use Rattle.alf_pieces.specs.Pieces.{WalkLine, PieceOf, CtbOf}
use Rattle.alf_pieces.specs.Copies.{pitch, copy_length, copied, copy_at}
use Rattle.alf_pieces.proofs.PieceFacts.{InPiece}
use Rattle.alf_pieces.proofs.CtbPieces.{column_facts, row_facts}
use Rattle.alf_pieces.proofs.CopyReads.{copy_reads}
use Rattle.alf_pieces.proofs.CopySamples.{copy_at_lem}

-- a plane of an accepted picture with these ratios to luma, and the copy of a piece of it
module _ {l : Layout} {p : Picture} {c : Ctb} {s : Sides} (ctb : CtbOf l p c s) (column_ratio row_ratio line : ℕ)
    (across_ratio : Ratio column_ratio) (down_ratio : Ratio row_ratio) (walk : WalkLine line) {columns rows : Piece}
    (across : PieceOf (plane_of l column_ratio row_ratio line).columns (column_side l c) c.column columns)
    (down : PieceOf (plane_of l column_ratio row_ratio line).rows (row_side l c) c.row rows)
    (plane copy copy0 : List ℕ) {width : ℕ} (wide : samples (plane_of l column_ratio row_ratio line).columns ≡ width)
    (copies : copy ≡ painted copy0 (between 0 (copy_length columns rows)) (copy_at columns rows s plane width))
    (room : copy_length columns rows ≤ length copy0) where
  -- the sample at (x, y), and its neighbour at (u, v), which stands at column i and row j of the copy
  pub copy_holds : (x y u v i j : ℕ)
      → InPiece (plane_of l column_ratio row_ratio line).columns columns x u → InPiece (plane_of l column_ratio row_ratio line).rows rows y v
      → u ≡ columns.start + i - 3 → v ≡ rows.start + j - 3 → i < pitch columns → j < pitch rows
      → read l (plane_of l column_ratio row_ratio line) x y plane u v ≡ get_or copy (j * pitch columns + i) 0
  copy_holds x y u v i j in_columns in_rows column row h h' =
      sym (copy_reads l c s ctb.sides column_ratio row_ratio line columns rows
      (column_facts ctb column_ratio row_ratio line across_ratio across)
      (row_facts ctb column_ratio row_ratio line down_ratio walk down) x y u v i j in_columns in_rows column row plane)
      ∙ ap (λ (w : ℕ). copied columns rows s plane w i j) wide
      ∙ sym (copy_at_lem columns rows s plane copy copy0 width copies room i j h h')
