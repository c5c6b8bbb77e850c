-- What a piece is filtered from, and what its copy says of its samples. Assumes nothing.
use Rattle.std.specs.Prelude.{◌≡◌, List, [], ℕ, ◌+◌, ◌-◌, ◌*◌, ◌/◌, ◌%◌, ◌≤◌, ◌<◌, ℤ, pos, length, get_or}
use Rattle.alf_spec.specs.declared.ChromaRows.{ChromaRows}
use Rattle.alf_spec.specs.declared.Grid.{Grid}
use Rattle.alf_spec.specs.declared.Picture.{Picture}
use Rattle.alf_spec.specs.Input.{Layout}
use Rattle.alf_spec.specs.Geometry.{Plane, sub_width, sub_height, plane_of, luma_position, line_rule, bottom_distance, axis_of}
use Rattle.alf_spec.specs.Chroma.{chroma_rows}
use Rattle.alf_math.specs.Grids.{AcceptedPicture}
use Rattle.alf_math.specs.Integers.{CoeffRange, ClipRange}
use Rattle.alf_pieces.specs.declared.pieces.Piece.{Piece}
use Rattle.alf_pieces.specs.Pieces.{PieceIn}
use Rattle.alf_pieces.specs.Copies.{pitch, copy_length, area}
use Rattle.alf_taps.specs.Spread.{spread_coeff, spread_clip, TapNumbers}
use Rattle.alf_chroma.specs.Samples.{piece_sample}

-- ---- a filter: 6 coefficients, and then 6 clips (`ChromaFilter`)

-- the numbers of the filter's first `count` taps stand in the first n columns
pub record Spread (filters : List ℤ) (count n : ℕ) (taps : List ℤ) : Type 0 where
  pub coefficients : (j x : ℕ) → j < count → x < n → spread_coeff taps x j ≡ get_or filters j (pos 0)
  pub clips : (j x : ℕ) → j < count → x < n → spread_clip taps x j ≡ get_or filters (6 + j) (pos 0)

-- ---- what functions are given

-- an accepted picture and its grid, the component's plane, a filter; room for the copy of a piece, for the filter's numbers, and for the
-- output
pub record ChromaWork (p : Picture) (g : Grid) (chroma : List ℕ) (filters : List ℤ) (copy : ℕ) (taps : List ℤ) (output : ℕ) : Type 0 where
  pub picture : AcceptedPicture p g
  pub chroma_length : length chroma ≡ (p.width / sub_width p) * (p.height / sub_height p)
  pub output_length : output ≡ (p.width / sub_width p) * (p.height / sub_height p)
  pub samples : (k : ℕ) → get_or chroma k 0 < 4096
  pub filter_length : 12 ≤ length filters
  pub coefficients : (j : ℕ) → j < 6 → CoeffRange (get_or filters j (pos 0))
  pub clips : (j : ℕ) → j < 6 → ClipRange (get_or filters (6 + j) (pos 0))
  pub copy_room : area ≤ copy
  pub numbers : TapNumbers taps

-- an accepted picture and its grid, a piece with its copy, its filter's numbers, and room for the output
pub record RowsWork (p : Picture) (g : Grid) (columns rows : Piece) (copy : List ℕ) (taps : List ℤ) (output : ℕ) : Type 0 where
  pub picture : AcceptedPicture p g
  pub across : PieceIn (p.width / sub_width p) columns
  pub down : PieceIn (p.height / sub_height p) rows
  pub copy_room : copy_length columns rows ≤ length copy
  pub samples : (k : ℕ) → k < copy_length columns rows → get_or copy k 0 < 4096
  pub numbers : TapNumbers taps
  pub output_length : output ≡ (p.width / sub_width p) * (p.height / sub_height p)

-- ---- the plane whose pieces are filtered

-- the chroma plane without its line: no tap reads across it (`LineCrossing`), so that pieces go on over it
abbrev pub unlined_plane : Layout → Plane
unlined_plane l = plane_of l (sub_width l.picture) (sub_height l.picture) 0

-- ---- samples

-- Table 46 at row y of a plane, where `ratio` rows of luma are one of the plane's
abbrev pub chroma_rows_of : ℕ → ℕ → ℕ → ℕ → ChromaRows
chroma_rows_of height ctb ratio y =
    let a = axis_of height ctb [] 0 ratio in
    chroma_rows (line_rule a (luma_position a y)) (bottom_distance a y)

-- the filtered sample at index k of the plane, from the copy of the piece in which it lies
unfoldable pub copy_chroma_at : Picture → ℕ → List ℕ → List ℤ → Piece → Piece → ℕ → ℕ
copy_chroma_at p ctb copy taps columns rows k =
    let x = k % (p.width / sub_width p) in
    let y = k / (p.width / sub_width p) in
    let r = chroma_rows_of p.height ctb (sub_height p) y in
    piece_sample copy (pitch columns) r taps p.bit_depth (y - rows.start) (x - columns.start)
