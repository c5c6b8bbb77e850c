-- A row of a piece: where it lies in the copy and in the plane, and that its samples are the piece's. Assumes nothing.
use mathlib.Core.Path.{◌≡◌, refl, ap}
use mathlib.Core.Bool.{Bool, true, ◌&&◌}
use mathlib.Core.List.{List}
use Prim.Native.Nat.{ℕ, ◌+◌, ◌-◌, ◌*◌, ◌/◌, ◌%◌, ◌≤◌, ◌<◌}
use native.Mathlib.Nat.{le_trans, div-le_self, mul_comm, mul-le-mul_right}
use native.Mathlib.Omega.{arith}
use lib.IntN.{ℤ}
use Rattle.alf_spec.specs.declared.ChromaRows.{ChromaRows}
use Rattle.alf_spec.specs.declared.Grid.{Grid}
use Rattle.alf_spec.specs.declared.Picture.{Picture}
use Rattle.alf_spec.specs.Geometry.{sub_width, sub_height}
use Rattle.alf_spec.specs.Chroma.{chroma_rows}
use Rattle.alf_spec.proofs.Tests.{cond_either}
use Rattle.alf_spec.proofs.Ratios.{Ratio, whole, half, chroma_ratios}
use Rattle.alf_math.proofs.Grids.{width_bounds, height_bounds}
use Rattle.alf_pieces.specs.declared.pieces.Piece.{Piece}
use Rattle.alf_lists.specs.Regions.{between}
use Rattle.alf_pieces.specs.Copies.{extent, pitch, copy_length}
use Rattle.alf_lists.proofs.Regions.{run_facts, row_of, row_room}
use Rattle.alf_chroma.specs.declared.kernel.ChromaStarts.{ChromaStarts}
use Rattle.alf_chroma.specs.Samples.{ChromaReads, chroma_starts_of, chroma_copy_sample_from, piece_sample}
use Rattle.alf_chroma.specs.Pieces.{RowsWork, chroma_rows_of, copy_chroma_at}

-- what Table 46 can say: the farther row is the second, at most 2 away, and a sum can be shifted so far
abbrev pub Bounds : ChromaRows → Type 0
Bounds r = (r.y1 ≤ r.y2) × (r.y2 ≤ 2) × (r.shift < 32)

pub row_bounds : (line : Bool) (d : ℕ) → Bounds (chroma_rows line d)
unfolding chroma_rows
row_bounds line d = cond_either Bounds (line && _) _ _ (omega arith) (cond_either Bounds (line && _) _ _ (omega arith) (omega arith))

ratio_bounds : (r : ℕ) → Ratio r → (0 < r) × (r ≤ 2)
ratio_bounds _ whole = omega arith
ratio_bounds _ half = omega arith

-- what the rows of a piece are filtered from, with n columns, in a plane of so many columns, of which a row is `ratio` of luma's
pub record Begun (p : Picture) (g : Grid) (columns rows : Piece) (copy : List ℕ) (taps : List ℤ) (output n width ratio : ℕ) : Type 0 where
  pub work : RowsWork p g columns rows copy taps output
  pub n_is : n ≡ extent columns
  pub width_is : width ≡ p.width / sub_width p
  pub ratio_is : ratio ≡ sub_height p

module _ {p : Picture} {g : Grid} {columns rows : Piece} {copy : List ℕ} {taps : List ℤ} {output n width ratio : ℕ}
    (B : Begun p g columns rows copy taps output n width ratio) where
  pub row-ratio : (0 < ratio) × (ratio ≤ 2)
  row-ratio = rw B.ratio_is (ratio_bounds (sub_height p) (chroma_ratios p).1)

  pub narrow : (width ≤ 4096) × (p.height / sub_height p ≤ 4096)
  narrow =
      let A = B.work.picture in (
        rw B.width_is (le_trans (div-le_self _ _) (width_bounds p A.sizes A.ctb_size).1),
        le_trans (div-le_self _ _) (height_bounds p A.sizes A.ctb_size).1,
      )

  pub last-column : columns.start + n ≡ columns.end
  last-column = let filled = B.work.across.filled in omega (arith, B.n_is)

  pub in_plane_lem : columns.start + n ≤ width
  in_plane_lem = let A = B.work.across in omega (arith, last-column, B.width_is, A.high, A.inside)

  -- row y of the plane
  module _ (y : ℕ) (low : rows.start ≤ y) (high : y < rows.end) where
    pub row_small : y ≤ 4096
    row_small = let D = B.work.down in omega (arith, D.high, D.inside, narrow.1)

    module _ (r : ChromaRows) (table : r ≡ chroma_rows_of p.height g.ctb ratio y) (from : ℕ)
        (at : from ≡ y * width + columns.start) where
      -- the rows that its taps read
      abbrev starts : ChromaStarts
      starts = chroma_starts_of (n + 6) (y - rows.start) r

      -- they stand in the copy, and the row in the plane
      pub row_reads : ChromaReads copy starts n
      row_reads =
          let near : Bounds r = rw table (row_bounds _ _) in
          let down : rows.end - rows.start + 6 ≡ pitch rows = refl in
          let all : pitch rows * (n + 6) ≡ copy_length columns rows = rw B.n_is in
          let last : (y - rows.start + 3 + r.y2 + 1) * (n + 6) ≤ pitch rows * (n + 6) = mul-le-mul_right (n + 6) (omega arith) in
          record {
            rise = (
              mul-le-mul_right (n + 6) (omega arith),
              mul-le-mul_right (n + 6) (omega arith),
              mul-le-mul_right (n + 6) (omega arith),
              mul-le-mul_right (n + 6) (omega arith),
            );
            room = omega (arith, B.work.copy_room);
            samples = λ k h. B.work.samples k (omega arith);
          }

      pub row_room_lem : from + n ≤ output
      row_room_lem =
          let W = B.work in
          let height : ℕ = p.height / sub_height p in
          let in_plane : y * width + width ≤ height * width =
          row_room y height width _ (omega (arith, W.down.high, W.down.inside)) (omega arith) in
          omega (arith, at, in_plane_lem, in_plane, W.output_length, ap (λ (w : ℕ). w * height) B.width_is, mul_comm width height)

      pub row_sample_lem : (k : ℕ) → between from n k ≡ true
          → chroma_copy_sample_from copy starts taps r.shift p.bit_depth from k ≡ copy_chroma_at p g.ctb copy taps columns rows k
      unfolding copy_chroma_at piece_sample
      row_sample_lem k t =
          let f = run_facts from n k t in
          let e = row_of width y k (omega (arith, at)) (omega (arith, at, in_plane_lem)) in
          let x : k % width - columns.start ≡ k - from = omega (arith, at) in
          rw (← B.width_is, ← B.ratio_is, e.0, x, ← table, ← B.n_is)
