-- The picture is accepted, the tables have its grid's lengths, and the copy of the last CTB's one piece is of 14 by 14 samples. Assumes
-- nothing.
use Rattle.std.proofs.Common.{arith, ◌≡◌, refl, sym, true, false, [], ◌∷◌, ◌*◌, ◌≤◌, ◌<◌}
use lib.ListN.{replicate}
use Rattle.alf_spec.specs.declared.Picture.{Picture}
use Rattle.alf_spec.specs.declared.Grid.{Grid}
use Rattle.alf_spec.specs.declared.Sides.{Sides}
use Rattle.alf_spec.specs.Lists.{every_from, all_below}
use Rattle.alf_spec.specs.Input.{Layout, layout_of}
use Rattle.alf_spec.specs.Geometry.{ctb_size}
use Rattle.alf_spec.specs.Faults.{picture_size_valid, ctb_size_valid, bit_depth_valid, virtual_list_valid}
use Rattle.alf_math.specs.Grids.{ctbs_along, GridOf, AcceptedPicture}
use Rattle.alf_boundary.specs.declared.clips.CtbAxis.{CtbAxis}
use Rattle.alf_boundary.specs.Clips.{column_axis, row_axis}
use Rattle.alf_boundary.specs.Tables.{MembershipTables}
use Rattle.alf_pieces.specs.declared.pieces.Piece.{Piece}
use Rattle.alf_pieces.specs.Pieces.{limit_along, PieceIn}
use Rattle.alf_pieces.specs.Walks.{Along, Walk, Turn}
use Rattle.alf_pieces.specs.Copies.{pitch}
use Rattle.alf_pieces.proofs.PieceWalk.{walk_luma, columns_along, rows_along, walk_start}
use Rattle.worked_examples.proofs.positions.show_corner.Goals as goal

abbrev picture : Picture
picture = record {
  width = 40;
  height = 40;
  ctb_log2 = 5;
  bit_depth = 8;
  chroma_format = 0;
  slice_count = 2;
  across_tiles = true;
  across_slices = false;
}

abbrev layout : Layout
layout = layout_of picture [] [] (0 ∷ 0 ∷ []) (0 ∷ 0 ∷ []) (0 ∷ 1 ∷ 1 ∷ 1 ∷ []) (0 ∷ 0 ∷ 0 ∷ 0 ∷ []) (replicate 64 1)

sizes : picture_size_valid picture ≡ true
unfolding picture_size_valid
sizes = refl

log2 : ctb_size_valid picture ≡ true
unfolding ctb_size_valid
log2 = refl

no-boundaries : virtual_list_valid 40 (ctb_size picture) [] ≡ true
unfolding virtual_list_valid every_from all_below
no-boundaries = refl

-- two by two CTBs of 32
module _ (g : Grid) (h : GridOf picture g) where
  side : g.ctb ≡ 32
  unfolding ctb_size
  side = h.ctb

  columns : g.columns ≡ 2
  unfolding ctbs_along ctb_size
  columns = h.columns

  rows : g.rows ≡ 2
  unfolding ctbs_along ctb_size
  rows = h.rows

  tables : MembershipTables g layout
  unfolding every_from
  tables = record {
    columns_length = sym columns;
    rows_length = sym rows;
    slice_length = rw (columns, rows);
    subpic_length = rw (columns, rows);
    switch_length = refl;
    subpictures = refl;
  }

-- a piece that begins at 32 of 40 samples
record Last (p : Piece) : Type 0 where
  is : PieceIn 40 p
  begins : p.start ≡ 32

-- an axis through the last CTB: the walk over its pieces begins at 32
record LastCtb (a : CtbAxis) : Type 0 where
  along : Along a []
  walk : Walk a [] 32
  ahead : 32 < limit_along a
  size : a.size ≡ 40

last-ctb : {a : CtbAxis} → Along a [] → a.place * a.ctb ≡ 32 → a.size ≡ 40 → a.ctb ≡ 32 → LastCtb a
last-ctb along begins size ctb = record { along = along; walk = walk_start along (sym begins); ahead = omega arith; size = size }

-- and finds its last piece
last : {a : CtbAxis} {p : Piece} → LastCtb a → Turn a [] 32 p → Last p
last l t = record { is = rw l.size at t.blocks.numbers; begins = t.start }

-- the picture is accepted
picture-is : {g : Grid} → GridOf picture g → AcceptedPicture picture g
unfolding bit_depth_valid
picture-is h = record { grid = h; sizes = sizes; ctb_size = log2; depth = refl }

-- its axes through the last CTB
columns-on : {a : CtbAxis} (g : Grid) → GridOf picture g → (s : Sides) → a ≡ column_axis picture g s 1 → LastCtb a
columns-on g h s same =
    rw same (last-ctb (columns_along (picture-is h) s 1 no-boundaries (omega (arith, side g h))) (omega (arith, side g h)) refl (side g h))

rows_on : {a : CtbAxis} (g : Grid) → GridOf picture g → (s : Sides) → a ≡ row_axis picture g s 4 1 → LastCtb a
rows_on g h s same =
    rw same (last-ctb (rows_along (picture-is h) s 1 walk_luma no-boundaries (omega (arith, side g h))) (omega (arith, side g h)) refl
    (side g h))

-- 8 samples, and the margins
pitch-small : {p : Piece} → Last p → pitch p ≤ 14
pitch-small l = omega (arith, l.is.high, l.is.inside, l.begins)

pub grid-grid-requires : goal.grid-grid-requires
grid-grid-requires g c = (sizes, log2)

pub sides_of-sides-requires : goal.sides_of-sides-requires
sides_of-sides-requires g c =
    let grid = c.grid-grid in
    let wide = columns grid.result grid.ensures in
    let high = rows grid.result grid.ensures in
    (grid.ensures, tables grid.result grid.ensures, omega arith, omega arith)

pub piece_at-columns-requires : goal.piece_at-columns-requires
piece_at-columns-requires g c =
    let l = columns-on c.grid-grid.result c.grid-grid.ensures c.sides_of-sides.result c.column_axis.ensures in (l.along, l.walk, l.ahead)
