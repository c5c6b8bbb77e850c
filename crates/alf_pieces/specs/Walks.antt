-- A walk over the pieces of a CTB: what it needs of an axis, where it stands, what each of its turns finds, and what it has passed. Assumes
-- nothing.
use Rattle.std.specs.Prelude.{◌≡◌, Bool, ◌||◌, Option, Some, None, ℕ, ◌*◌, ◌/◌, ◌%◌, ◌≤◌, ◌<◌}
use mathlib.Core.List.{List, Memᴰ}
use Rattle.alf_spec.specs.declared.ClipCause.{ClipCause}
use Rattle.alf_spec.specs.declared.Grid.{Grid}
use Rattle.alf_spec.specs.declared.Sides.{Sides}
use Rattle.alf_spec.specs.Input.{Layout}
use Rattle.alf_spec.specs.Geometry.{Side, Axis}
use Rattle.alf_boundary.specs.declared.clips.CtbAxis.{CtbAxis}
use Rattle.alf_boundary.specs.Clips.{column_axis, row_axis, axis_along, sides_along}
use Rattle.alf_lists.specs.Regions.{in_rect}
use Rattle.alf_pieces.specs.declared.pieces.Piece.{Piece}
use Rattle.alf_pieces.specs.declared.walks.CtbWalk.{CtbWalk}
use Rattle.alf_pieces.specs.Pieces.{WalkLine, limit_along, Begins, PieceOf, BlockPiece}

-- an axis of an accepted picture through one of its CTBs, with the virtual boundaries along it and a line at which pieces end: sizes and
-- boundaries are multiples of 8
pub record Along (a : CtbAxis) (list : List ℕ) : Type 0 where
  pub ctb_low : 8 ≤ a.ctb
  pub ctb_high : a.ctb ≤ 128
  pub ctb8 : a.ctb % 8 ≡ 0
  pub size_high : a.size ≤ 4096
  pub size8 : a.size % 8 ≡ 0
  pub virtual8 : (v : ℕ) → Memᴰ v list → v % 8 ≡ 0
  pub line : WalkLine a.line
  pub begins : a.place * a.ctb < a.size

-- a walk stands at x: where a piece begins, or where the CTB ends
pub record Walk (a : CtbAxis) (list : List ℕ) (x : ℕ) : Type 0 where
  pub from : a.place * a.ctb ≤ x
  pub upto : x ≤ limit_along a
  pub begins : x < limit_along a → Begins (axis_along a list 1) a.place x

-- what a turn of it finds: the piece p that begins at x, of whole blocks, and where the walk stands behind it
pub record Turn (a : CtbAxis) (list : List ℕ) (x : ℕ) (p : Piece) : Type 0 where
  pub start : p.start ≡ x
  pub piece : PieceOf (axis_along a list 1) (sides_along a) a.place p
  pub blocks : BlockPiece a.size p
  pub next : Walk a list p.end

-- the pieces that are found along a are those of the CTB at place q of the axis b, with these sides
abbrev pub PiecesAlong : CtbAxis → List ℕ → Axis → (Side → ClipCause) → ℕ → Type 0
PiecesAlong a list b side q = (p : Piece) → PieceOf (axis_along a list 1) (sides_along a) a.place p → PieceOf b side q p

-- ---- along both axes

-- the two axes through a CTB, each with the virtual boundaries along it: what the struct `CtbAxes` lends
pub record Axes : Type 0 where
  pub columns : CtbAxis
  pub virtual_columns : List ℕ
  pub rows : CtbAxis
  pub virtual_rows : List ℕ

abbrev pub axes_of : CtbAxis → List ℕ → CtbAxis → List ℕ → Axes
axes_of a virtual_columns b virtual_rows = record { columns = a; virtual_columns = virtual_columns; rows = b; virtual_rows = virtual_rows }

-- those of a layout with this grid through the CTB at address k, with its sides and with the line so many luma rows above its bottom
abbrev pub axes_through : Layout → Grid → Sides → ℕ → ℕ → Axes
axes_through l g s line k = record {
  columns = column_axis l.picture g s (k % g.columns);
  virtual_columns = l.virtual_columns;
  rows = row_axis l.picture g s line (k / g.columns);
  virtual_rows = l.virtual_rows;
}

-- both are axes of an accepted picture through one of its CTBs
abbrev pub AlongAxes : Axes → Type 0
AlongAxes x = Along x.columns x.virtual_columns × Along x.rows x.virtual_rows

-- a walk stands at w: at a piece of columns and a piece of rows of the CTB
pub record StandsAt (x : Axes) (w : CtbWalk) : Type 0 where
  pub columns : Walk x.columns x.virtual_columns w.columns.start
  pub rows : Walk x.rows x.virtual_rows w.rows.start
  pub across : Turn x.columns x.virtual_columns w.columns.start w.columns
  pub down : Turn x.rows x.virtual_rows w.rows.start w.rows

-- it stands at a piece, or it is over
abbrev pub Stands : Axes → Option CtbWalk → Type 0
Stands x (Some w) = StandsAt x w
Stands x None = Unit {0}

-- v comes next: its piece lies beside that of w, or it begins the rows below, where that is the last one of its rows
pub data Next (x : Axes) (w v : CtbWalk) : Type 0 where
  beside : v.columns.start ≡ w.columns.end → v.rows ≡ w.rows → Next x w v
  below : w.columns.end ≡ limit_along x.columns → v.rows.start ≡ w.rows.end → v.columns.start ≡ x.columns.place * x.columns.ctb → Next x w v

-- what comes behind w: the next piece, or nothing, where both of its axes end at w
abbrev pub Follows : Axes → CtbWalk → Option CtbWalk → Type 0
Follows x w (Some v) = Next x w v
Follows x w None = (w.columns.end ≡ limit_along x.columns) × (w.rows.end ≡ limit_along x.rows)

-- ---- in a plane of so many columns, with these ratios to luma

module _ (width column_ratio row_ratio : ℕ) where
  -- the samples of a piece of columns and a piece of rows
  abbrev pub in_piece : Piece → Piece → ℕ → Bool
  in_piece columns rows =
      in_rect width (columns.start / column_ratio) (columns.end / column_ratio) (rows.start / row_ratio) (rows.end / row_ratio)

  module _ (x : Axes) where
    -- where the CTB begins and ends, in the plane's samples
    abbrev pub left : ℕ
    left = x.columns.place * x.columns.ctb / column_ratio

    abbrev pub right : ℕ
    right = limit_along x.columns / column_ratio

    abbrev pub top : ℕ
    top = x.rows.place * x.rows.ctb / row_ratio

    abbrev pub bottom : ℕ
    bottom = limit_along x.rows / row_ratio

    -- those of the CTB
    abbrev pub in_walk : ℕ → Bool
    in_walk = in_rect width left right top bottom

    -- those that are passed where the walk stands at w: the CTB's rows above the piece, and in the piece's rows what lies before it
    abbrev pub passed_at : CtbWalk → ℕ → Bool
    passed_at w k =
        in_rect width left right top (w.rows.start / row_ratio) k
        || in_rect width left (w.columns.start / column_ratio) (w.rows.start / row_ratio) (w.rows.end / row_ratio) k

    -- those that are passed: where the walk is over, the CTB
    abbrev pub passed : Option CtbWalk → ℕ → Bool
    passed (Some w) = passed_at w
    passed None = in_walk
