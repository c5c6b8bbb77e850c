-- 8.8.5.3, derivation of the filter index (class) and the transpose of a 4 by 4 luma block. Assumes nothing.
use Rattle.std.specs.Prelude.{Bool, ◌&&◌, cond, List, [], ◌∷◌, ℕ, ◌+◌, ◌-◌, ◌*◌, ◌/◌, ◌%◌, ◌^◌, min, eqb, ltb, get_or}
use Rattle.alf_spec.specs.declared.WindowRows.{WindowRows}
use Rattle.alf_spec.specs.declared.Sums.{Sums}
use Rattle.alf_spec.specs.declared.Gradient.{Gradient}
use Rattle.alf_spec.specs.declared.Class.{Class}
use Rattle.alf_spec.specs.Lists.{sum_below, tabulate}
use Rattle.alf_spec.specs.Arithmetic.{distance}
use Rattle.alf_spec.specs.Input.{Layout}
use Rattle.alf_spec.specs.Geometry.{in_ctb, line_rule, luma_plane}
use Rattle.alf_spec.specs.Padding.{read}

-- ---- the window

-- (1470), (1471): the samples at the offsets −3 to 6 both ways from the block's first sample (x4, y4), row by row. Edges (01's word for
-- clip positions) are taken at that sample. Entry 10 j + i stands at the offsets i − 3 and j − 3.
unfoldable pub class_window : Layout → List ℕ → ℕ → ℕ → List ℕ
class_window l plane x4 y4 = tabulate 100 (λ k. read l (luma_plane l) x4 y4 plane (x4 + k % 10 - 3) (y4 + k / 10 - 3))

module _ (window : List ℕ) where
  -- recPicture[ hx4 + i − 3 ][ vy4 + j − 3 ]
  abbrev pub at : ℕ → ℕ → ℕ
  at i j = get_or window (10 * j + i) 0

  -- (1472)
  unfoldable pub filt_h : ℕ → ℕ → ℕ
  filt_h i j = distance (2 * at i j) (at (i - 1) j + at (i + 1) j)

  -- (1473)
  unfoldable pub filt_v : ℕ → ℕ → ℕ
  filt_v i j = distance (2 * at i j) (at i (j - 1) + at i (j + 1))

  -- (1474)
  unfoldable pub filt_d0 : ℕ → ℕ → ℕ
  filt_d0 i j = distance (2 * at i j) (at (i - 1) (j - 1) + at (i + 1) (j + 1))

  -- (1475)
  unfoldable pub filt_d1 : ℕ → ℕ → ℕ
  filt_d1 i j = distance (2 * at i j) (at (i + 1) (j - 1) + at (i - 1) (j + 1))

-- minY to maxY, as the first row of the window (row r stands at offset r − 3) and how many, and ac: the block at S − 8 uses rows −2 to 3,
-- that at S − 4 rows 0 to 5, with factor 3, when the line rule is on; others −2 to 5, with factor 2
unfoldable pub window_rows : Bool → ℕ → ℕ → WindowRows
window_rows line s y =
    cond (line && eqb y (s - 8)) (record { first = 1; count = 6; factor = 3 })
    (cond (line && eqb y (s - 4)) (record { first = 3; count = 6; factor = 3 })
    (record { first = 1; count = 8; factor = 2 }))

-- (1476) to (1479): the sum over the columns −2 to 5 and those rows, where both offsets are even or both odd
unfoldable pub window_sum : WindowRows → (ℕ → ℕ → ℕ) → ℕ
window_sum r filt = sum_below r.count (λ j. sum_below 8
    (λ i. cond (eqb ((i + 1) % 2) ((r.first + j) % 2)) (filt (i + 1) (r.first + j)) 0))

-- sumV, sumH, sumD0, sumD1
unfoldable pub window_sums : WindowRows → List ℕ → Sums
window_sums r w = record { v = window_sum r (filt_v w); h = window_sum r (filt_h w); d0 = window_sum r (filt_d0 w); d1 = window_sum r (filt_d1 w) }

-- ---- direction, activity, class

-- (1498): varTab
abbrev pub activity_table : List ℕ
activity_table = 0 ∷ 1 ∷ 2 ∷ 2 ∷ 2 ∷ 2 ∷ 2 ∷ 3 ∷ 3 ∷ 3 ∷ 3 ∷ 3 ∷ 3 ∷ 3 ∷ 3 ∷ 4 ∷ []

-- transposeTable, above (1500)
abbrev pub transpose_table : List ℕ
transpose_table = 0 ∷ 1 ∷ 0 ∷ 2 ∷ 2 ∷ 3 ∷ 1 ∷ 3 ∷ []

-- the larger of two sums, the smaller, and the larger one's direction
abbrev pub gradient : ℕ → ℕ → ℕ → Gradient
gradient large small direction = record { large = large; small = small; direction = direction }

-- of two sums with their directions; a counts as larger only if it is greater than b
unfoldable pub larger : ℕ → ℕ → ℕ → ℕ → Gradient
larger a b direction_a direction_b = cond (ltb b a) (gradient a b direction_a) (gradient b a direction_b)

-- (1481) to (1486): hv1, hv0, dirHV
abbrev pub hv : Sums → Gradient
hv s = larger s.v s.h 1 3

-- (1487) to (1492): d1, d0, dirD
abbrev pub dd : Sums → Gradient
dd s = larger s.d0 s.d1 0 2

-- d1 * hv0 > hv1 * d0
unfoldable pub diagonal : Gradient → Gradient → Bool
diagonal d hv = ltb (hv.large * d.small) (d.large * hv.small)

-- (1493) to (1495): hvd1, hvd0 and dir1 are the main gradient's
unfoldable pub main_gradient : Sums → Gradient
main_gradient s = cond (diagonal (dd s) (hv s)) (dd s) (hv s)

-- (1496): dir2 is the other gradient's
unfoldable pub other_gradient : Sums → Gradient
other_gradient s = cond (diagonal (dd s) (hv s)) (hv s) (dd s)

-- (1497): dirS
unfoldable pub strength : Gradient → ℕ
strength g = cond (ltb (9 * g.small) (g.large * 2)) 2 (cond (ltb (2 * g.small) g.large) 1 0)

-- (1499): avgVar, from sumOfHV of (1480)
unfoldable pub activity : ℕ → ℕ → ℕ → ℕ
activity depth factor sum_of_hv = get_or activity_table (min 15 (sum_of_hv * factor / 2 ^ (depth - 1))) 0

-- transposeIdx, above (1500), from dir1 and dir2
unfoldable pub transpose_idx : Gradient → Gradient → ℕ
transpose_idx main other = get_or transpose_table (main.direction * 2 + other.direction / 2) 0

-- (1500): filtIdx
unfoldable pub filt_idx : ℕ → Gradient → ℕ
filt_idx avg_var main = cond (eqb (strength main) 0) avg_var (avg_var + (main.direction % 2 * 2 + strength main) * 5)

-- ---- the class of sums, of a window, and of the block whose first sample is (x4, y4)

-- filtIdx and transposeIdx
unfoldable pub class_of_sums : ℕ → ℕ → Sums → Class
class_of_sums depth factor s = record {
  filter = filt_idx (activity depth factor (s.h + s.v)) (main_gradient s);
  transpose = transpose_idx (main_gradient s) (other_gradient s);
}

-- of a window: (1476) to (1500)
unfoldable pub class_of : ℕ → WindowRows → List ℕ → Class
class_of depth r window = class_of_sums depth r.factor (window_sums r window)

-- of a block: clause 8.8.5.3 whole
unfoldable pub block_class : Layout → List ℕ → ℕ → ℕ → Class
block_class l plane x4 y4 =
    class_of l.picture.bit_depth
    (window_rows (line_rule (luma_plane l).rows y4) (luma_plane l).rows.ctb (in_ctb (luma_plane l).rows y4))
    (class_window l plane x4 y4)
