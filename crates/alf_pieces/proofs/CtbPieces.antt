-- The axes of a CTB of an accepted layout, for every plane, and its pieces along them. Assumes nothing.
use mathlib.Core.Path.{◌≡◌, refl}
use mathlib.Core.Bool.{true}
use mathlib.Core.List.{List}
use Prim.Native.Nat.{ℕ, ◌≤◌}
use Rattle.alf_spec.specs.declared.Ctb.{Ctb}
use Rattle.alf_spec.specs.declared.Grid.{Grid}
use Rattle.alf_spec.specs.declared.Picture.{Picture}
use Rattle.alf_spec.specs.declared.Sides.{Sides}
use Rattle.alf_spec.specs.Input.{Layout}
use Rattle.alf_spec.specs.Geometry.{ctb_size, plane_of}
use Rattle.alf_spec.specs.Boundary.{column_side, row_side}
use Rattle.alf_spec.specs.Faults.{size_valid, ctb_size_valid, virtual_list_valid}
use Rattle.alf_spec.proofs.Accepted.{AcceptedLayout, sizes_valid, lists_valid}
use Rattle.alf_spec.proofs.Axes.{Regular, regular}
use Rattle.alf_spec.proofs.Ratios.{Ratio}
use Rattle.alf_math.specs.Grids.{GridOf}
use Rattle.alf_math.proofs.Grids.{ctb_bounds}
use Rattle.alf_boundary.specs.Clips.{column_axis, row_axis}
use Rattle.alf_boundary.specs.Tables.{SidesOf}
use Rattle.alf_pieces.specs.declared.pieces.Piece.{Piece}
use Rattle.alf_pieces.specs.Pieces.{WalkLine, PieceOf, CtbOf}
use Rattle.alf_pieces.specs.Walks.{PiecesAlong}
use Rattle.alf_pieces.proofs.PieceFacts.{Facts, piece_facts}
use Rattle.alf_pieces.proofs.PieceWalk.{walk_none, same-piece}

pub ctb-accepted : {l : Layout} → AcceptedLayout l → {c : Ctb} {s : Sides} → SidesOf l c s → CtbOf l l.picture c s
ctb-accepted ok sides = record {
  picture = refl;
  sizes = ok.sizes;
  ctb_size = ok.ctb_size;
  virtual_boundaries =
      ok.virtual_boundaries;
  sides = sides;
}

module _ {l : Layout} {p : Picture} {c : Ctb} {s : Sides} (ctb : CtbOf l p c s) where
  sizes : (size_valid l.picture.width ≡ true) × (size_valid l.picture.height ≡ true)
  sizes = sizes_valid l.picture (rw ctb.picture ctb.sizes)

  log2 : ctb_size_valid l.picture ≡ true
  log2 = rw ctb.picture ctb.ctb_size

  boundaries : (virtual_list_valid l.picture.width (ctb_size l.picture) l.virtual_columns ≡ true)
      × (virtual_list_valid l.picture.height (ctb_size l.picture) l.virtual_rows ≡ true)
  boundaries = lists_valid l ctb.virtual_boundaries

  small : ctb_size l.picture ≤ 128
  small = rw ctb.picture (ctb_bounds p ctb.sizes ctb.ctb_size).1

  -- in a plane with these ratios to luma
  module _ (column_ratio row_ratio line : ℕ) where
    regular_across : Regular (plane_of l column_ratio row_ratio line).columns
    unfolding plane_of
    regular_across = regular l.picture log2 l.picture.width l.virtual_columns 0 column_ratio sizes.0 boundaries.0

    pub regular_down : Regular (plane_of l column_ratio row_ratio line).rows
    unfolding plane_of
    regular_down = regular l.picture log2 l.picture.height l.virtual_rows line row_ratio sizes.1 boundaries.1

    pub column_facts : Ratio column_ratio → {columns : Piece} → PieceOf (plane_of l column_ratio row_ratio line).columns (column_side l c)
        c.column columns
        → Facts (plane_of l column_ratio row_ratio line).columns (column_side l c) c.column columns
    unfolding plane_of
    column_facts ratio h = piece_facts _ regular_across walk_none ratio small _ _ _ h

    pub row_facts : Ratio row_ratio → WalkLine line → {rows : Piece} → PieceOf (plane_of l column_ratio row_ratio line).rows
        (row_side l c) c.row rows
        → Facts (plane_of l column_ratio row_ratio line).rows (row_side l c) c.row rows
    unfolding plane_of
    row_facts ratio walk h = piece_facts _ regular_down walk ratio small _ _ _ h

  -- the pieces that code finds are the layout's
  module _ {g : Grid} (grid : GridOf p g) (line : ℕ) where
    pub column_pieces : {list : List ℕ} → l.virtual_columns ≡ list
        → PiecesAlong (column_axis p g s c.column) list (plane_of l 1 1 line).columns (column_side l c) c.column
    unfolding plane_of
    column_pieces e piece h = same-piece (rw (grid.ctb, ctb.picture, e)) ctb.sides.left ctb.sides.right h

    pub row_pieces : {list : List ℕ} → l.virtual_rows ≡ list
        → PiecesAlong (row_axis p g s line c.row) list (plane_of l 1 1 line).rows (row_side l c) c.row
    unfolding plane_of
    row_pieces e piece h = same-piece (rw (grid.ctb, ctb.picture, e)) ctb.sides.top ctb.sides.bottom h
