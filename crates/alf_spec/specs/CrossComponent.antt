-- 8.8.5.7, the cross-component filtering of a chroma sample: its input is the filtered chroma plane and the unfiltered luma plane.
-- Assumes nothing.
use Rattle.std.specs.Prelude.{Bool, ◌&&◌, ◌||◌, cond, List, [], ◌∷◌, map, ℕ, ◌+◌, ◌-◌, ◌^◌, ℤ, pos, neg_ℤ, ◌+ℤ◌, ◌-ℤ◌, ◌*ℤ◌, eqb, get_or}
use Rattle.alf_spec.specs.declared.CrossRows.{CrossRows}
use Rattle.alf_spec.specs.Lists.{sum_below_ℤ}
use Rattle.alf_spec.specs.Arithmetic.{clip3, rounded, clip_sample}
use Rattle.alf_spec.specs.Input.{Input}
use Rattle.alf_spec.specs.Geometry.{luma_plane, chroma_plane, luma_position, index_of, ctb_at, line_rule, bottom_distance}
use Rattle.alf_spec.specs.Padding.{read}
use Rattle.alf_spec.specs.Parameters.{cross_aps, cross_index, cross_coeff}

-- Table 47, by the distance of the luma row from the CTB's bottom
unfoldable pub cross_rows : Bool → ℕ → CrossRows
cross_rows line d =
    cond (line && (eqb d 5 || eqb d 4)) (record { y1 = 0; y2 = 0 })
    (cond (line && (eqb d 6 || eqb d 3)) (record { y1 = 1; y2 = 1 })
    (record { y1 = 1; y2 = 2 }))

-- (1533): where the taps 0 to 6 read luma
unfoldable pub cross_taps : ℕ → ℕ → CrossRows → List (ℕ × ℕ)
cross_taps x y r =
    (x, y - r.y1)
    ∷ (x - 1, y) ∷ (x + 1, y)
    ∷ (x - 1, y + r.y1) ∷ (x, y + r.y1) ∷ (x + 1, y + r.y1)
    ∷ (x, y + r.y2)
    ∷ []

-- (1533), from the luma sample at the middle and those around it
unfoldable pub cross_sum : ℕ → (ℕ → ℤ) → List ℕ → ℤ
cross_sum middle f around = sum_below_ℤ 7 (λ j. f j *ℤ (pos (get_or around j 0) -ℤ pos middle))

-- (1534) to (1536)
unfoldable pub corrected : ℕ → ℕ → ℤ → ℕ
corrected depth curr sum =
    clip_sample depth (pos curr +ℤ clip3 (neg_ℤ (pos (2 ^ (depth - 1)))) (pos (2 ^ (depth - 1) - 1)) (rounded 7 sum))

-- the sample at (x, y) of a component filtered; ( xL, yL ) is its luma position
module _ (i : Input) (component x y : ℕ) where
  -- its column
  abbrev pub x_l : ℕ
  x_l = luma_position (chroma_plane i.layout).columns x

  -- its row
  abbrev pub y_l : ℕ
  y_l = luma_position (chroma_plane i.layout).rows y

  -- Table 47 at the luma row y * subHeightC
  abbrev pub cross_rows_at : CrossRows
  cross_rows_at = cross_rows (line_rule (luma_plane i.layout).rows y_l) (bottom_distance (luma_plane i.layout).rows y_l)

  -- (1529), (1530): the luma sample at a neighbour's position
  abbrev pub cross_read : ℕ × ℕ → ℕ
  cross_read p = read i.layout (luma_plane i.layout) x_l y_l i.luma p.0 p.1

  -- (1531) is the chroma sample; (1532): f[ j ] is that of the slice's cross-component APS and of the CTB's index, which counts from 1
  unfoldable pub cross_with : CrossRows → ℕ
  cross_with r =
      corrected i.layout.picture.bit_depth (get_or i.chroma (index_of (chroma_plane i.layout) x y) 0)
      (cross_sum (cross_read (x_l, y_l))
      (cross_coeff i (cross_aps i (ctb_at (chroma_plane i.layout) x y) component) component
      (cross_index i (ctb_at (chroma_plane i.layout) x y) component - 1))
      (map cross_read (cross_taps x_l y_l r)))

  -- (1536): the filtered sample
  unfoldable pub cross_sample : ℕ
  cross_sample = cross_with cross_rows_at
