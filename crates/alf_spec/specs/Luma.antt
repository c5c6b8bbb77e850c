-- 8.8.5.2, the filtering of a luma sample. Assumes nothing.
use Rattle.std.specs.Prelude.{Bool, ◌&&◌, ◌||◌, cond, List, [], ◌∷◌, map, ℕ, ◌+◌, ◌-◌, ◌*◌, ◌/◌, ◌^◌, ℤ, pos, eqb, ltb, get_or}
use Rattle.alf_spec.specs.declared.LumaRows.{LumaRows}
use Rattle.alf_spec.specs.declared.Ctb.{Ctb}
use Rattle.alf_spec.specs.declared.Class.{Class}
use Rattle.alf_spec.specs.Arithmetic.{tap_sum, filtered}
use Rattle.alf_spec.specs.Input.{Input}
use Rattle.alf_spec.specs.Geometry.{luma_plane, ctb_at, line_rule, bottom_distance}
use Rattle.alf_spec.specs.Padding.{read}
use Rattle.alf_spec.specs.Parameters.{luma_set, luma_aps, luma_coeff, luma_clip, fixed_coeff}
use Rattle.alf_spec.specs.Classes.{block_class}

-- the filter of a CTB for a class
module _ (i : Input) (c : Ctb) (filter j : ℕ) where
  -- (1454), (1455), (1457), (1458): f[ j ]
  unfoldable pub luma_f : ℤ
  luma_f = cond (ltb (luma_set i c) 16) (fixed_coeff i (luma_set i c) filter j) (luma_coeff i (luma_aps i c (luma_set i c - 16)) filter j)

  -- (1456), (1459): c[ j ]
  unfoldable pub luma_c : ℤ
  luma_c = cond (ltb (luma_set i c) 16) (pos (2 ^ i.layout.picture.bit_depth)) (luma_clip i (luma_aps i c (luma_set i c - 16)) filter j)

-- (1460) to (1463): idx, by transpose
abbrev pub tap_order_table : List (List ℕ)
tap_order_table =
    (0 ∷ 1 ∷ 2 ∷ 3 ∷ 4 ∷ 5 ∷ 6 ∷ 7 ∷ 8 ∷ 9 ∷ 10 ∷ 11 ∷ [])
    ∷ (9 ∷ 4 ∷ 10 ∷ 8 ∷ 1 ∷ 5 ∷ 11 ∷ 7 ∷ 3 ∷ 0 ∷ 2 ∷ 6 ∷ [])
    ∷ (0 ∷ 3 ∷ 2 ∷ 1 ∷ 8 ∷ 7 ∷ 6 ∷ 5 ∷ 4 ∷ 9 ∷ 10 ∷ 11 ∷ [])
    ∷ (9 ∷ 8 ∷ 10 ∷ 4 ∷ 3 ∷ 7 ∷ 11 ∷ 5 ∷ 1 ∷ 0 ∷ 2 ∷ 6 ∷ [])
    ∷ []

-- idx[ j ]
unfoldable pub tap_order : ℕ → ℕ → ℕ
tap_order transpose j = get_or (get_or tap_order_table transpose []) j 0

-- Table 45, by the distance of a row from the CTB's bottom: row S − 5 is at distance 5
unfoldable pub luma_rows : Bool → ℕ → LumaRows
luma_rows line d =
    cond (line && (eqb d 5 || eqb d 4)) (record { y1 = 0; y2 = 0; y3 = 0; shift = 10 })
    (cond (line && (eqb d 6 || eqb d 3)) (record { y1 = 1; y2 = 1; y3 = 1; shift = 7 })
    (cond (line && (eqb d 7 || eqb d 2)) (record { y1 = 1; y2 = 2; y3 = 2; shift = 7 })
    (record { y1 = 1; y2 = 2; y3 = 3; shift = 7 })))

-- where the taps 0 to 11 read: each at two samples that lie opposite each other
module _ (x y : ℕ) (r : LumaRows) where
  -- (1467): the first of each pair
  unfoldable pub luma_plus : List (ℕ × ℕ)
  luma_plus =
      (x, y + r.y3)
      ∷ (x + 1, y + r.y2) ∷ (x, y + r.y2) ∷ (x - 1, y + r.y2)
      ∷ (x + 2, y + r.y1) ∷ (x + 1, y + r.y1) ∷ (x, y + r.y1) ∷ (x - 1, y + r.y1) ∷ (x - 2, y + r.y1)
      ∷ (x + 3, y) ∷ (x + 2, y) ∷ (x + 1, y)
      ∷ []

  -- (1467): the second of each pair
  unfoldable pub luma_minus : List (ℕ × ℕ)
  luma_minus =
      (x, y - r.y3)
      ∷ (x - 1, y - r.y2) ∷ (x, y - r.y2) ∷ (x + 1, y - r.y2)
      ∷ (x - 2, y - r.y1) ∷ (x - 1, y - r.y1) ∷ (x, y - r.y1) ∷ (x + 1, y - r.y1) ∷ (x + 2, y - r.y1)
      ∷ (x - 3, y) ∷ (x - 2, y) ∷ (x - 1, y)
      ∷ []

-- the sample at (x, y) filtered
module _ (i : Input) (x y : ℕ) where
  -- Table 45 at row y
  abbrev pub luma_rows_at : LumaRows
  luma_rows_at = luma_rows (line_rule (luma_plane i.layout).rows y) (bottom_distance (luma_plane i.layout).rows y)

  -- (1464), (1465): the sample at a neighbour's position
  abbrev pub luma_read : ℕ × ℕ → ℕ
  luma_read p = read i.layout (luma_plane i.layout) x y i.luma p.0 p.1

  -- (1466) to (1469), with f and c at idx[ j ]
  unfoldable pub luma_with : Class → LumaRows → ℕ
  luma_with class r =
      filtered i.layout.picture.bit_depth r.shift (luma_read (x, y))
      (tap_sum 12 (luma_read (x, y))
      (λ j. luma_f i (ctb_at (luma_plane i.layout) x y) class.filter (tap_order class.transpose j))
      (λ j. luma_c i (ctb_at (luma_plane i.layout) x y) class.filter (tap_order class.transpose j))
      (map luma_read (luma_plus x y r))
      (map luma_read (luma_minus x y r)))

  -- (1469): the filtered sample, with the class of its 4 by 4 block
  unfoldable pub luma_sample : ℕ
  luma_sample = luma_with (block_class i.layout i.luma (x / 4 * 4) (y / 4 * 4)) luma_rows_at
