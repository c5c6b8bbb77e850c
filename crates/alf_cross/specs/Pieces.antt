-- What a piece is corrected from, and what its copy says of its chroma samples. Assumes nothing.
use Rattle.std.specs.Prelude.{◌≡◌, List, [], map, ℕ, ◌+◌, ◌-◌, ◌*◌, ◌/◌, ◌%◌, ◌≤◌, ◌<◌, ℤ, pos, nat_abs, length, get_or}
use Rattle.alf_spec.specs.declared.Ctb.{Ctb}
use Rattle.alf_spec.specs.declared.CrossRows.{CrossRows}
use Rattle.alf_spec.specs.declared.Grid.{Grid}
use Rattle.alf_spec.specs.declared.Picture.{Picture}
use Rattle.alf_spec.specs.Input.{Input}
use Rattle.alf_spec.specs.Geometry.{sub_width, sub_height, line_rule, axis_of}
use Rattle.alf_spec.specs.Parameters.{cross_aps, cross_index, cross_coeff}
use Rattle.alf_spec.specs.CrossComponent.{cross_rows, cross_taps, cross_sum, corrected}
use Rattle.alf_math.specs.Grids.{AcceptedPicture}
use Rattle.alf_pieces.specs.declared.pieces.Piece.{Piece}
use Rattle.alf_pieces.specs.Copies.{extent, pitch, area}
use Rattle.alf_cross.specs.declared.kernel.CrossRow.{CrossRow}
use Rattle.alf_cross.specs.Taps.{split_index, cross_starts_of}

-- an accepted picture and its grid, a chroma plane, the coefficients, and room for the plane that is written
pub record CrossPlanes (p : Picture) (g : Grid) (chroma : List ℕ) (filters : List ℤ) (output : ℕ) : Type 0 where
  pub picture : AcceptedPicture p g
  pub chroma_length : length chroma ≡ p.width / sub_width p * (p.height / sub_height p)
  pub output_length : output ≡ p.width / sub_width p * (p.height / sub_height p)
  pub chroma_samples : (k : ℕ) → get_or chroma k 0 < 4096
  pub filter_length : 7 ≤ length filters
  pub coefficients : (j : ℕ) → nat_abs (get_or filters j (pos 0)) ≤ 128

-- the planes of `CrossPlanes`, the picture's luma samples, and room for the copy of a piece and for the split copy
pub record CrossWork (p : Picture) (g : Grid) (luma chroma : List ℕ) (filters : List ℤ) (copy split output : ℕ) : Type 0 where
  pub planes : CrossPlanes p g chroma filters output
  pub luma_length : length luma ≡ p.width * p.height
  pub luma_samples : (k : ℕ) → get_or luma k 0 < 4096
  pub copy_room : area ≤ copy
  pub split_room : area ≤ split

-- the first n entries of the copy are samples
pub record SmallCopy (copy : List ℕ) (n : ℕ) : Type 0 where
  pub room : n ≤ length copy
  pub small : (k : ℕ) → k < n → get_or copy k 0 < 4096

-- (1532): the first seven numbers are the coefficients of the CTB c
pub record CrossFilter (i : Input) (c : Ctb) (component : ℕ) (filters : List ℤ) : Type 0 where
  pub coefficients : (j : ℕ) → j < 7
      → get_or filters j (pos 0) ≡ cross_coeff i (cross_aps i c component) component (cross_index i c component - 1) j

-- Table 47 at luma row y
abbrev pub cross_rows_of : ℕ → ℕ → ℕ → CrossRows
cross_rows_of height ctb y = cross_rows (line_rule (axis_of height ctb [] 4 1) y) (ctb - y % ctb)

-- a piece's samples in row v of the chroma plane; its luma row is row y − start + 3 of the copy, since the margin has 3 rows
abbrev pub cross_row_of : Picture → ℕ → Piece → Piece → ℕ → CrossRow
cross_row_of p ctb columns rows v = record {
  starts = cross_starts_of (pitch columns) (v * sub_height p - rows.start + 3) (cross_rows_of p.height ctb (v * sub_height p)) (sub_width p);
  from = v * (p.width / sub_width p) + columns.start / sub_width p;
  n = extent columns / sub_width p;
}

-- the sample at column i and row j of the copy, from the split copy
abbrev pub split_read : List ℕ → Piece → ℕ → ℕ × ℕ → ℕ
split_read split columns step at = get_or split (at.1 * pitch columns + split_index (pitch columns) step at.0) 0

-- (1533) of the sample at column i and row j of the copy
unfoldable pub piece_sum : List ℕ → Piece → ℕ → List ℤ → CrossRows → ℕ → ℕ → ℤ
piece_sum split columns step filters r i j =
    cross_sum (split_read split columns step (i, j)) (λ n. get_or filters n (pos 0)) (map (split_read split columns step) (cross_taps i j r))

-- the corrected sample at index k of the chroma plane, from the split copy of the piece in which its luma position (x, y) lies; the margin
-- has 3 samples
unfoldable pub split_cross_at : Picture → ℕ → List ℤ → List ℕ → List ℕ → Piece → Piece → ℕ → ℕ
split_cross_at p ctb filters split chroma columns rows k =
    let x = k % (p.width / sub_width p) * sub_width p in
    let y = k / (p.width / sub_width p) * sub_height p in
    corrected p.bit_depth (get_or chroma k 0)
    (piece_sum split columns (sub_width p) filters (cross_rows_of p.height ctb y) (x - columns.start + 3) (y - rows.start + 3))
