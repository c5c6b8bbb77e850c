-- 8.8.5.4, the filtering of a chroma sample, over the ratio of the planes. Assumes nothing.
use Rattle.std.specs.Prelude.{Bool, ◌&&◌, ◌||◌, cond, List, [], ◌∷◌, map, ℕ, ◌+◌, ◌-◌, eqb}
use Rattle.alf_spec.specs.declared.ChromaRows.{ChromaRows}
use Rattle.alf_spec.specs.Arithmetic.{tap_sum, filtered}
use Rattle.alf_spec.specs.Input.{Input}
use Rattle.alf_spec.specs.Geometry.{chroma_plane, luma_position, ctb_at, line_rule, bottom_distance}
use Rattle.alf_spec.specs.Padding.{read}
use Rattle.alf_spec.specs.Parameters.{chroma_aps, chroma_alternative, chroma_coeff, chroma_clip}

-- Table 46, by the distance of a chroma row from the CTB's bottom: row T − 2, T being the CTB's height in chroma rows, is at distance 2
unfoldable pub chroma_rows : Bool → ℕ → ChromaRows
chroma_rows line d =
    cond (line && (eqb d 2 || eqb d 3)) (record { y1 = 0; y2 = 0; shift = 10 })
    (cond (line && (eqb d 1 || eqb d 4)) (record { y1 = 1; y2 = 1; shift = 7 })
    (record { y1 = 1; y2 = 2; shift = 7 }))

-- where the taps 0 to 5 read: each at two samples that lie opposite each other
module _ (x y : ℕ) (r : ChromaRows) where
  -- (1508): the first of each pair
  unfoldable pub chroma_plus : List (ℕ × ℕ)
  chroma_plus =
      (x, y + r.y2)
      ∷ (x + 1, y + r.y1) ∷ (x, y + r.y1) ∷ (x - 1, y + r.y1)
      ∷ (x + 2, y) ∷ (x + 1, y)
      ∷ []

  -- (1508): the second of each pair
  unfoldable pub chroma_minus : List (ℕ × ℕ)
  chroma_minus =
      (x, y - r.y2)
      ∷ (x - 1, y - r.y1) ∷ (x, y - r.y1) ∷ (x + 1, y - r.y1)
      ∷ (x - 2, y) ∷ (x - 1, y)
      ∷ []

-- the sample at (x, y) of a component filtered
module _ (i : Input) (component x y : ℕ) where
  -- Table 46 at row y
  abbrev pub chroma_rows_at : ChromaRows
  chroma_rows_at =
      chroma_rows (line_rule (chroma_plane i.layout).rows (luma_position (chroma_plane i.layout).rows y))
      (bottom_distance (chroma_plane i.layout).rows y)

  -- (1503), (1504): the sample at a neighbour's position
  abbrev pub chroma_read : ℕ × ℕ → ℕ
  chroma_read p = read i.layout (chroma_plane i.layout) x y i.chroma p.0 p.1

  -- (1505) to (1510): f[ j ] and c[ j ] are those of the slice's chroma APS and of the CTB's alternative
  unfoldable pub chroma_with : ChromaRows → ℕ
  chroma_with r =
      filtered i.layout.picture.bit_depth r.shift (chroma_read (x, y))
      (tap_sum 6 (chroma_read (x, y))
      (chroma_coeff i (chroma_aps i (ctb_at (chroma_plane i.layout) x y))
      (chroma_alternative i (ctb_at (chroma_plane i.layout) x y) component))
      (chroma_clip i (chroma_aps i (ctb_at (chroma_plane i.layout) x y))
      (chroma_alternative i (ctb_at (chroma_plane i.layout) x y) component))
      (map chroma_read (chroma_plus x y r))
      (map chroma_read (chroma_minus x y r)))

  -- (1510): the filtered sample
  unfoldable pub chroma_sample : ℕ
  chroma_sample = chroma_with chroma_rows_at
