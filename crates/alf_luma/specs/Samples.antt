-- The filtered samples of a piece, from its copy. `proofs/PieceSamples` shows them to be those of `alf_spec`. Assumes nothing.
use Rattle.std.specs.Prelude.{◌≡◌, List, [], ℕ, ◌+◌, ◌-◌, ◌*◌, ◌/◌, ◌%◌, ◌≤◌, ◌<◌, ℤ, pos, length, get_or}
use Rattle.alf_spec.specs.declared.Picture.{Picture}
use Rattle.alf_spec.specs.declared.Grid.{Grid}
use Rattle.alf_spec.specs.declared.Class.{Class}
use Rattle.alf_spec.specs.declared.LumaRows.{LumaRows}
use Rattle.alf_spec.specs.Arithmetic.{tap_sum, filtered}
use Rattle.alf_spec.specs.Geometry.{line_rule, axis_of}
use Rattle.alf_spec.specs.Classes.{class_of}
use Rattle.alf_spec.specs.Luma.{tap_order, luma_rows}
use Rattle.alf_spec.specs.Process.{class_number}
use Rattle.alf_math.specs.Grids.{AcceptedPicture}
use Rattle.alf_pieces.specs.declared.pieces.Piece.{Piece}
use Rattle.alf_pieces.specs.Copies.{extent, pitch, copy_length, area}
use Rattle.alf_classify.specs.Windows.{copy_window}
use Rattle.alf_classify.specs.PieceClasses.{row_window}
use Rattle.alf_taps.specs.Spread.{TapNumbers}
use Rattle.alf_luma.specs.declared.kernel.Starts.{Starts}
use Rattle.alf_luma.specs.Kernel.{current, plus_samples, minus_samples, filtered_at}
use Rattle.alf_params.specs.Filters.{FilterNumbers}
use Rattle.alf_luma.specs.SpreadFilters.{TapOrders}

-- Table 45 at row y of a picture of that height, with CTBs of that size
abbrev pub luma_rows_at_row : ℕ → ℕ → ℕ → LumaRows
luma_rows_at_row height ctb y = luma_rows (line_rule (axis_of height ctb [] 4 1) y) (ctb - y % ctb)

-- the rows of the copy that the taps of the piece's row t read; the copy begins 3 rows before the piece
abbrev pub starts_of : ℕ → ℕ → LumaRows → Starts
starts_of pitch t r = record {
  above3 = (t + 3 - r.y3) * pitch;
  above2 = (t + 3 - r.y2) * pitch;
  above1 = (t + 3 - r.y1) * pitch;
  here = (t + 3) * pitch;
  below1 = (t + 3 + r.y1) * pitch;
  below2 = (t + 3 + r.y2) * pitch;
  below3 = (t + 3 + r.y3) * pitch;
}

-- the filtered sample at index k of the plane, with filters that are spread over n columns from column `left` on; row `top` of the picture
-- is row t of the piece
unfoldable pub spread_sample_at : Picture → ℕ → List ℕ → List ℤ → ℕ → ℕ → ℕ → ℕ → ℕ → ℕ
spread_sample_at p ctb copy taps left n top t k =
    let y = k / p.width in
    let r = luma_rows_at_row p.height ctb y in
    filtered_at p.bit_depth r.shift copy taps (starts_of (n + 6) (t + (y - top)) r) (k % p.width - left)

module _ (p : Picture) (ctb : ℕ) (copy : List ℕ) (columns rows : Piece) where
  -- the class of the block at column b and row r of the piece, counted in blocks
  abbrev pub piece_class : ℕ → ℕ → Class
  piece_class b r = class_of p.bit_depth (row_window p.height ctb (rows.start + 4 * r))
      (copy_window copy (pitch columns) (4 * b) (4 * r))

  -- a map of 32 blocks a row holds their class numbers
  abbrev pub MapOf : List ℕ → Type 0
  MapOf map = (b r : ℕ) → b < extent columns / 4 → r < extent rows / 4 → get_or map (r * 32 + b) 0 ≡ class_number (piece_class b r)

  -- (1466) to (1469) at (x, y): the filter is that of the block's class
  unfoldable pub luma_copy_sample : List ℤ → ℕ → ℕ → ℕ
  luma_copy_sample filters x y =
      let s = x - columns.start in
      let t = y - rows.start in
      let r = luma_rows_at_row p.height ctb y in
      let starts = starts_of (pitch columns) t r in
      let class = piece_class (s / 4) (t / 4) in
      filtered p.bit_depth r.shift (current copy starts s)
      (tap_sum 12 (current copy starts s)
      (λ j. get_or filters (24 * class.filter + tap_order class.transpose j) (pos 0))
      (λ j. get_or filters (24 * class.filter + (12 + tap_order class.transpose j)) (pos 0))
      (plus_samples copy starts s) (minus_samples copy starts s))

  -- the filtered sample at index k of the plane
  abbrev pub luma_copy_sample_at : List ℤ → ℕ → ℕ
  luma_copy_sample_at filters k = luma_copy_sample filters (k % p.width) (k / p.width)

-- ---- what the functions are given

-- what a row of blocks is filtered with: an accepted picture, the filters of a CTB, the tap orders, room for the spread filters, and an
-- output of the picture's size
pub record BlockRowInput (p : Picture) (g : Grid) (filters : List ℤ) (orders : List ℕ) (taps : List ℤ) (output : ℕ) : Type 0 where
  pub picture : AcceptedPicture p g
  pub numbers : FilterNumbers filters
  pub order : TapOrders orders
  pub spread : TapNumbers taps
  pub output_length : output ≡ p.width * p.height

-- the copy of a piece, which holds samples
pub record PieceCopy (columns rows : Piece) (copy : List ℕ) : Type 0 where
  pub room : copy_length columns rows ≤ length copy
  pub samples : (k : ℕ) → k < copy_length columns rows → get_or copy k 0 < 4096

-- what a piece is filtered with: what each of its rows of blocks is, the picture's luma samples, and room for the piece's copy and
-- differences
pub record LumaPieceInput (p : Picture) (g : Grid) (luma : List ℕ) (filters : List ℤ) (orders : List ℕ)
    (copy differences : ℕ) (taps : List ℤ) (output : ℕ) : Type 0 where
  pub blocks : BlockRowInput p g filters orders taps output
  pub luma_length : length luma ≡ p.width * p.height
  pub samples : (k : ℕ) → get_or luma k 0 < 4096
  pub copy_room : area ≤ copy
  pub difference_room : 4 * area ≤ differences
