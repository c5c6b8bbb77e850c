-- A row of chroma samples of a piece: where its taps lie in the copy, and that they are those of Table 47. Assumes nothing.
use mathlib.Core.Path.{◌≡◌, refl, ap}
use mathlib.Core.Bool.{Bool, true, false, ◌&&◌, ◌||◌, cond}
use mathlib.Core.List.{List, [], ◌∷◌, map}
use Prim.Native.Nat.{ℕ, ◌+◌, ◌-◌, ◌*◌, ◌/◌, ◌%◌, ◌≤◌, ◌<◌}
use native.Mathlib.Nat.{mul-le-mul_right}
use native.Mathlib.Omega.{arith}
use lib.Dec.{eqb}
use lib.IntN.{ℤ, pos}
use lib.ListN.{get_or}
use Rattle.alf_spec.specs.declared.CrossRows.{CrossRows}
use Rattle.alf_spec.specs.declared.Picture.{Picture}
use Rattle.alf_spec.specs.Lists.{sum_below_ℤ}
use Rattle.alf_spec.specs.Geometry.{sub_width, sub_height}
use Rattle.alf_spec.specs.CrossComponent.{cross_rows, cross_taps, cross_sum, corrected}
use Rattle.alf_spec.proofs.Ratios.{Ratio, whole, half, chroma_ratios, le_own, lt_own}
use Rattle.alf_pieces.specs.declared.pieces.Piece.{Piece}
use Rattle.alf_lists.specs.Regions.{between}
use Rattle.alf_pieces.specs.Pieces.{BlockPiece}
use Rattle.alf_pieces.specs.Copies.{extent, pitch, copy_length}
use Rattle.alf_lists.proofs.Regions.{run_facts, row_of}
use Rattle.alf_cross.specs.declared.kernel.CrossRow.{CrossRow}
use Rattle.alf_cross.specs.Taps.{split_index, last, CrossReads, seven, split_taps, split_sum, row_sample, cross_starts_of}
use Rattle.alf_cross.specs.Pieces.{SmallCopy, cross_rows_of, cross_row_of, split_read, piece_sum, split_cross_at}
use Rattle.alf_cross.proofs.SplitColumns.{index_next}

-- ---- a piece of whole blocks, in the samples of a plane with this ratio to luma

pub record Own (ratio n : ℕ) (p : Piece) : Type 0 where
  pub all : extent p ≡ ratio * (extent p / ratio)
  pub start : p.start ≡ ratio * (p.start / ratio)
  pub last : p.start / ratio + extent p / ratio ≡ p.end / ratio
  pub upto : p.end / ratio ≤ n / ratio

pub own : {n : ℕ} {p : Piece} (ratio : ℕ) → Ratio ratio → BlockPiece n p → Own ratio n p
own _ whole B = let N = B.numbers in omega (arith, N.filled, N.high, N.inside)
own _ half B = let N = B.numbers in omega (arith, B.start4, B.end4, N.filled, N.high, N.inside)

-- ---- the rows that are read

-- the rows that are read lie at most one above the sample and two below it
pub record SmallRows (r : CrossRows) : Type 0 where
  pub above : r.y1 ≤ 1
  pub order : r.y1 ≤ r.y2
  pub below : r.y2 ≤ 2

pub small-rows : (line : Bool) (d : ℕ) → SmallRows (cross_rows line d)
unfolding cross_rows
small-rows line d = pick (line && (eqb d 5 || eqb d 4)) (line && (eqb d 6 || eqb d 3))
  where
    pick : (s t : Bool) → SmallRows (cond s (record { y1 = 0; y2 = 0 }) (cond t (record { y1 = 1; y2 = 1 }) (record { y1 = 1; y2 = 2 })))
    pick true t = omega arith
    pick false true = omega arith
    pick false false = omega arith

-- the rows that are read lie in the copy, which has so many rows, where the sample is in row j
pub row_reads : {split : List ℕ} {r : CrossRows} (j pitch step rows n : ℕ) → SmallRows r → SmallCopy split (rows * pitch)
    → j + 2 < rows → n + last (cross_starts_of pitch j r step) < pitch → CrossReads split (cross_starts_of pitch j r step) n
row_reads {r = r} j pitch step rows n near held inside within =
    let up : (j - r.y1) * pitch ≤ (j + r.y2) * pitch = mul-le-mul_right pitch (omega arith) in
    let here : j * pitch ≤ (j + r.y2) * pitch = mul-le-mul_right pitch (omega arith) in
    let down : (j + r.y1) * pitch ≤ (j + r.y2) * pitch = mul-le-mul_right pitch (omega (arith, near.order)) in
    let all : (j + r.y2 + 1) * pitch ≤ rows * pitch = mul-le-mul_right pitch (omega (arith, near.below)) in
    record {
      above_first = up;
      here_first = here;
      below_first = down;
      room = omega (arith, held.room);
      small = λ k h. held.small k (omega arith);
    }

-- the columns that are read for a piece's samples lie in their rows of the copy
pub columns_fit : {n : ℕ} {p : Piece} (ratio j : ℕ) (r : CrossRows) → Ratio ratio → BlockPiece n p
    → extent p / ratio + last (cross_starts_of (pitch p) j r ratio) < pitch p
unfolding split_index
columns_fit _ j r whole B = omega arith
columns_fit _ j r half B = omega arith

-- ---- what the taps read

-- the taps of the x-th sample of its row, in row j of the copy
module _ (split : List ℕ) (columns : Piece) (step : ℕ) (ratio : Ratio step) (r : CrossRows) (j x : ℕ) where
  -- the sample in column u of row q, which is column c of the first
  sample : (q c u : ℕ) → step * x + c ≡ u
      → get_or split (q * pitch columns + x + split_index (pitch columns) step c) 0 ≡ split_read split columns step (u, q)
  sample q c u e = rw (← e) (ap (λ (n : ℕ). get_or split n 0) (omega (arith, index_next step ratio (pitch columns) x c)))

  -- the taps read what `cross_taps` says
  taps_same : split_taps split (cross_starts_of (pitch columns) j r step) x
      ≡ map (split_read split columns step) (cross_taps (step * x + 3) j r)
  unfolding split_taps cross_taps
  taps_same =
      let left : step * x + 2 ≡ step * x + 3 - 1 = omega arith in
      let right : step * x + 4 ≡ step * x + 3 + 1 = omega arith in
      λ t.
      sample (j - r.y1) 3 _ refl t
      ∷ sample j 2 _ left t ∷ sample j 4 _ right t
      ∷ sample (j + r.y1) 2 _ left t ∷ sample (j + r.y1) 3 _ refl t ∷ sample (j + r.y1) 4 _ right t
      ∷ sample (j + r.y2) 3 _ refl t
      ∷ []

  pub sum_same : (filters : List ℤ)
      → split_sum split (cross_starts_of (pitch columns) j r step) (seven filters) x
      ≡ piece_sum split columns step filters r (step * x + 3) j
  unfolding split_sum piece_sum cross_sum sum_below_ℤ
  sum_same filters = λ t. cross_sum (sample j 3 _ refl t) (λ n. get_or filters n (pos 0)) (taps_same t)

-- ---- a row of a piece

module _ (p : Picture) {columns rows : Piece} (across : BlockPiece p.width columns) (down : BlockPiece p.height rows) (v : ℕ)
    (low : rows.start / sub_height p ≤ v) (high : v < rows.end / sub_height p) where
  -- its luma row lies in the piece
  pub luma-row : (rows.start ≤ v * sub_height p) × (v * sub_height p < rows.end)
  luma-row = (
    le_own (sub_height p) (chroma_ratios p).1 rows.start v (omega (arith, down.start4)) low,
    lt_own (sub_height p) rows.end v high,
  )

  -- its samples lie in the plane
  pub row_fits : v * (p.width / sub_width p) + columns.start / sub_width p + extent columns / sub_width p
      ≤ p.width / sub_width p * (p.height / sub_height p)
  row_fits =
      let c = own (sub_width p) (chroma_ratios p).0 across in
      let r = own (sub_height p) (chroma_ratios p).1 down in
      let below : (v + 1) * (p.width / sub_width p) ≤ p.height / sub_height p * (p.width / sub_width p) =
      mul-le-mul_right (p.width / sub_width p) (omega (arith, r.upto)) in
      omega (arith, c.last, c.upto)

  module _ (ctb : ℕ) where
    abbrev row : CrossRow
    row = cross_row_of p ctb columns rows v

    -- its taps lie in the split copy
    pub row_inside : {split : List ℕ} → SmallCopy split (copy_length columns rows) → CrossReads split row.starts row.n
    row_inside held =
        row_reads (v * sub_height p - rows.start + 3) (pitch columns) (sub_width p) (pitch rows) _ (small-rows _ _) held
        (omega (arith, luma-row, down.numbers))
        (columns_fit (sub_width p) 0 (cross_rows_of p.height ctb (v * sub_height p)) (chroma_ratios p).0 across)

    -- its samples are those of the split copy
    pub row_value : (filters : List ℤ) (split chroma : List ℕ) (k : ℕ) → between row.from row.n k ≡ true
        → row_sample split row.starts (seven filters) p.bit_depth chroma row.from k
        ≡ split_cross_at p ctb filters split chroma columns rows k
    unfolding row_sample split_cross_at
    row_value filters split chroma k t =
        let c = own (sub_width p) (chroma_ratios p).0 across in
        let f = run_facts row.from row.n k t in
        let e = row_of (p.width / sub_width p) v k (omega arith) (omega (arith, c.last, c.upto)) in
        let x : k % (p.width / sub_width p) ≡ columns.start / sub_width p + (k - row.from) = omega arith in
        let column : (columns.start / sub_width p + (k - row.from)) * sub_width p - columns.start + 3 ≡ sub_width p * (k - row.from) + 3 =
        omega (arith, c.start) in
        rw (e.0, x, column) (ap (corrected p.bit_depth (get_or chroma k 0))
        (sum_same split columns (sub_width p) (chroma_ratios p).0 (cross_rows_of p.height ctb (v * sub_height p))
        (v * sub_height p - rows.start + 3) (k - row.from) filters))
