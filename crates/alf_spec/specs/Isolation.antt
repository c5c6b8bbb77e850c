-- Open steps between luma samples, and the regions that no open step leaves (01: An area is shut ..). Assumes nothing.
use Rattle.std.specs.Prelude.{Bool, not, ◌&&◌, ◌||◌, cond, List, ℕ, ◌/◌, eqb, get_or}
use Rattle.alf_spec.specs.declared.Ctb.{Ctb}
use Rattle.alf_spec.specs.Lists.{implies, all_below, elem, tabulate}
use Rattle.alf_spec.specs.Input.{Layout, Operation}
use Rattle.alf_spec.specs.Geometry.{Side, before, after, same_side, next, gap, has_next, Axis, luma_plane, block_plane, luma_position}
use Rattle.alf_spec.specs.Geometry.{plane_length, index_of, column_of, row_of, ctb_at}
use Rattle.alf_spec.specs.Boundary.{slice_of, subpic_of, tile_column_of, tile_row_of, slice_disables, column_disabled, row_disabled}
use Rattle.alf_spec.specs.Process.{output_plane}

-- ---- steps, judged at the sample that they leave

-- a step along an axis to the sample next to x is open (01: not shut): the picture's rim has no step, and a step is not open on a virtual
-- boundary and across a side of the CTB that is disabled
unfoldable pub open_step : Axis → (Side → Bool) → Side → ℕ → Bool
open_step a disabled d x =
    has_next a.size d x
    && (not (elem (gap d x) a.virtual_boundaries)
    && (eqb (x / a.ctb) (next d x / a.ctb) || not (disabled d)))

module _ (l : Layout) (x y : ℕ) where
  -- a side step left or right
  unfoldable pub column_step : Side → Bool
  column_step d = open_step (luma_plane l).columns (column_disabled l (ctb_at (luma_plane l) x y)) d x

  -- a side step up or down
  unfoldable pub row_step : Side → Bool
  row_step e = open_step (luma_plane l).rows (row_disabled l (ctb_at (luma_plane l) x y)) e y

  -- a diagonal step is not open if either side step from the same sample is not, or if it goes up-left or down-right into another slice
  -- with the slice switch off
  unfoldable pub diagonal_step : Side → Side → Bool
  diagonal_step d e =
      column_step d && (row_step e
      && not (same_side d e && slice_disables l (ctb_at (luma_plane l) x y) (ctb_at (luma_plane l) (next d x) (next e y))))

-- ---- regions

-- the sample lies in a block whose number is 1
unfoldable pub inside : Layout → List ℕ → ℕ → ℕ → Bool
inside l region x y = eqb (get_or region (index_of (block_plane l) (x / 8) (y / 8)) 0) 1

-- the test passes on both sides
abbrev pub both_sides : (Side → Bool) → Bool
both_sides test = test before && test after

-- no open step goes from the sample to one outside
unfoldable pub stays_inside : Layout → List ℕ → ℕ → ℕ → Bool
stays_inside l region x y =
    both_sides (λ d. implies (column_step l x y d) (inside l region (next d x) y))
    && (both_sides (λ e. implies (row_step l x y e) (inside l region x (next e y)))
    && both_sides (λ d. both_sides (λ e. implies (diagonal_step l x y d e) (inside l region (next d x) (next e y)))))

-- (01: shut) no open step goes from a sample in the region to one outside it
unfoldable pub isolated : Layout → List ℕ → Bool
isolated l region =
    all_below l.picture.height (λ y. all_below l.picture.width (λ x. implies (inside l region x y) (stays_inside l region x y)))

-- the region of all blocks of the CTBs that pass a test
unfoldable pub region_of : Layout → (Ctb → Bool) → List ℕ
region_of l test =
    tabulate (plane_length (block_plane l)) (λ k. cond (test (ctb_at (block_plane l) (column_of (block_plane l) k) (row_of (block_plane l) k))) 1 0)

-- 01: all blocks of the CTBs with one slice byte
unfoldable pub slice_region : Layout → ℕ → List ℕ
slice_region l n = region_of l (λ c. eqb (slice_of l c) n)

-- 01: with one pair of tile numbers
unfoldable pub tile_region : Layout → ℕ → ℕ → List ℕ
tile_region l column row = region_of l (λ c. eqb (tile_column_of l c) column && eqb (tile_row_of l c) row)

-- 01: with one subpicture number
unfoldable pub subpic_region : Layout → ℕ → List ℕ
subpic_region l n = region_of l (λ c. eqb (subpic_of l c) n)

-- an entry of an output lies inside where its luma position does: a class and its transpose where their 4 by 4 block does
unfoldable pub output_inside : Operation → Layout → List ℕ → ℕ → Bool
output_inside op l region k =
    inside l region
    (luma_position (output_plane op l).columns (column_of (output_plane op l) k))
    (luma_position (output_plane op l).rows (row_of (output_plane op l) k))
