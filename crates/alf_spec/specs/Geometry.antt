-- The CTB grid, planes and their lengths, and where a sample lies. Assumes nothing.
use Rattle.std.specs.Prelude.{Bool, true, false, ◌&&◌, cond, List, ℕ, suc, pred, ◌+◌, ◌-◌, ◌*◌, ◌/◌, ◌%◌, ◌^◌, eqb, leb, ltb}
use Rattle.alf_spec.specs.declared.Picture.{Picture}
use Rattle.alf_spec.specs.declared.Ctb.{Ctb}
use Rattle.alf_spec.specs.Lists.{within}
use Rattle.alf_spec.specs.Input.{Layout}

-- Both axes follow one rule: before is left or above, after is right or below.
pub data Side : Type 0 where
  before after : Side

-- both are before, or both are after
abbrev pub same_side : Side → Side → Bool
same_side before before = true
same_side before after = false
same_side after before = false
same_side after after = true

-- the place next to x on that side
abbrev pub next : Side → ℕ → ℕ
next before x = pred x
next after x = suc x

-- the boundary between x and the place next to it: the boundary at b stands between b − 1 and b
abbrev pub gap : Side → ℕ → ℕ
gap before x = x
gap after x = suc x

-- of n places in a row, x has one next to it on that side
abbrev pub has_next : ℕ → Side → ℕ → Bool
has_next n d x = ltb 0 (gap d x) && ltb (gap d x) n

-- one axis of a plane. Positions and sizes are in luma samples, but where a comment says that they are the plane's own.
pub record Axis : Type 0 where
  -- the picture's samples along it, and a CTB's
  pub size : ℕ
  pub ctb : ℕ
  pub virtual_boundaries : List ℕ
  -- how far above a CTB's bottom its line-buffer boundary (01: the line) lies; 0 where there is none, as along columns
  pub line : ℕ
  -- luma samples to one of the plane's own: 1, or SubWidthC or SubHeightC
  pub ratio : ℕ

-- the axis with these fields
abbrev pub axis_of : ℕ → ℕ → List ℕ → ℕ → ℕ → Axis
axis_of size ctb virtual_boundaries line ratio = record {
  size = size;
  ctb = ctb;
  virtual_boundaries = virtual_boundaries;
  line = line;
  ratio = ratio;
}

-- the axis has a line-buffer boundary in each CTB
abbrev pub has_line : Axis → Bool
has_line a = ltb 0 a.line

-- a plane by its two axes: columns run left to right, rows top to bottom
pub record Plane : Type 0 where
  pub columns : Axis
  pub rows : Axis

-- CtbSizeY (01: S)
unfoldable pub ctb_size : Picture → ℕ
ctb_size p = 2 ^ p.ctb_log2

-- SubWidthC: 2 in 4:2:0 and 4:2:2 (chroma marks 1 and 2), else 1
unfoldable pub sub_width : Picture → ℕ
sub_width p = cond (within 1 2 p.chroma_format) 2 1

-- SubHeightC: 2 in 4:2:0, else 1
unfoldable pub sub_height : Picture → ℕ
sub_height p = cond (eqb p.chroma_format 1) 2 1

-- 8.8.5.5: the line lies 2 * scaleHeight luma rows above a CTB's bottom
abbrev pub line_rows : ℕ → ℕ
line_rows scale_height = 2 * scale_height

-- the picture's axes, for a plane with these ratios to luma, and with the line so many luma rows above a CTB's bottom
unfoldable pub plane_of : Layout → ℕ → ℕ → ℕ → Plane
plane_of l column_ratio row_ratio line = record {
  columns = axis_of l.picture.width (ctb_size l.picture) l.virtual_columns 0 column_ratio;
  rows = axis_of l.picture.height (ctb_size l.picture) l.virtual_rows line row_ratio;
}

-- the luma plane: ratio 1. For it, for classes and for what the cross-component filter reads scaleHeight is 2 (8.8.5.2, 8.8.5.3, 8.8.5.7),
-- so that the line lies 4 rows up.
abbrev pub luma_plane : Layout → Plane
luma_plane l = plane_of l 1 1 (line_rows 2)

-- 02, card 4: a chroma plane has its own ratio in each direction. For it scaleHeight is SubHeightC (8.8.5.4), so that the line lies 2
-- chroma rows up.
abbrev pub chroma_plane : Layout → Plane
chroma_plane l = plane_of l (sub_width l.picture) (sub_height l.picture) (line_rows (sub_height l.picture))

-- a class map has an entry for each 4 by 4 luma block (01: class plane)
abbrev pub class_plane : Layout → Plane
class_plane l = plane_of l 4 4 (line_rows 2)

-- a region has an entry for each 8 by 8 luma block (01: area)
abbrev pub block_plane : Layout → Plane
block_plane l = plane_of l 8 8 (line_rows 2)

-- the plane's own samples along an axis: (1515), (1516)
abbrev pub samples : Axis → ℕ
samples a = a.size / a.ratio

-- 02, card 4: chroma places multiply by their own ratio in each direction (01: twice, which is 4:2:0)
abbrev pub luma_position : Axis → ℕ → ℕ
luma_position a x = x * a.ratio

-- 01: planes, row by row, from the top left
abbrev pub plane_length : Plane → ℕ
plane_length g = samples g.columns * samples g.rows

-- the index of the sample at column x and row y
abbrev pub index_of : Plane → ℕ → ℕ → ℕ
index_of g x y = y * samples g.columns + x

-- the column of the sample at index k
abbrev pub column_of : Plane → ℕ → ℕ
column_of g k = k % samples g.columns

-- the row of the sample at index k
abbrev pub row_of : Plane → ℕ → ℕ
row_of g k = k / samples g.columns

-- the CTBs along an axis: Ceil( size ÷ CtbSizeY )
abbrev pub ctb_count : Axis → ℕ
ctb_count a = (a.size + (a.ctb - 1)) / a.ctb

-- xCtb or yCtb: where the CTB of a position begins
abbrev pub ctb_start : Axis → ℕ → ℕ
ctb_start a x = x / a.ctb * a.ctb

-- 01: x and y inside the CTB
abbrev pub in_ctb : Axis → ℕ → ℕ
in_ctb a x = x % a.ctb

-- the CTB of a sample of a plane
abbrev pub ctb_at : Plane → ℕ → ℕ → Ctb
ctb_at g x y = record { column = luma_position g.columns x / g.columns.ctb; row = luma_position g.rows y / g.rows.ctb }

-- PicWidthInCtbsY
abbrev pub ctb_columns : Layout → ℕ
ctb_columns l = ctb_count (luma_plane l).columns

-- PicHeightInCtbsY
abbrev pub ctb_rows : Layout → ℕ
ctb_rows l = ctb_count (luma_plane l).rows

-- 01: the CTB count
abbrev pub total_ctbs : Layout → ℕ
total_ctbs l = ctb_columns l * ctb_rows l

-- 01: CTB addresses, row by row from 0
abbrev pub address : Layout → Ctb → ℕ
address l c = c.row * ctb_columns l + c.column

-- the CTB at an address
abbrev pub ctb_of : Layout → ℕ → Ctb
ctb_of l k = record { column = k % ctb_columns l; row = k / ctb_columns l }

-- 01: the line rule is on exactly when the CTB's rows all lie in the picture (applyAlfLineBufBoundary)
unfoldable pub line_rule : Axis → ℕ → Bool
line_rule a y = leb (ctb_start a y + a.ctb) a.size

-- how far a row of the plane lies from the bottom of its CTB, in the plane's own rows: row S − 5 at distance 5, row T − 2 at distance 2
unfoldable pub bottom_distance : Axis → ℕ → ℕ
bottom_distance a y = a.ctb / a.ratio - in_ctb a (luma_position a y) / a.ratio
