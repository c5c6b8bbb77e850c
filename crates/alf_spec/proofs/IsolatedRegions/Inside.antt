-- What lies inside a region, planes that are the same there, and the luma sample at a sample's place. Assumes nothing.
use mathlib.Core.Path.{◌≡◌}
use mathlib.Core.Bool.{true}
use mathlib.Core.List.{List}
use Prim.Native.Nat.{ℕ, ◌<◌}
use native.Mathlib.Nat.{mul-one}
use native.Mathlib.Omega.{arith}
use lib.ListN.{get_or}
use Rattle.alf_spec.specs.Input.{Layout}
use Rattle.alf_spec.specs.Geometry.{Plane, plane_of, luma_plane, samples, luma_position, index_of, ctb_at}
use Rattle.alf_spec.specs.Isolation.{inside}
use Rattle.alf_spec.proofs.Ratios.{lt_own}

-- 01: "Inside are the samples that lie in a block whose area byte is 1", "A chroma sample lies where twice its place lies" (02, card 4: its
-- place times the ratios): the plane's sample at column x and row y
pub record Inside (l : Layout) (region : List ℕ) (g : Plane) (x y : ℕ) : Type 0 where
  pub column : x < samples g.columns
  pub row : y < samples g.rows
  pub position : inside l region (luma_position g.columns x) (luma_position g.rows y) ≡ true

-- two planes have the same samples inside
abbrev pub SameInside : Layout → List ℕ → Plane → List ℕ → List ℕ → Type 0
SameInside l region g plane plane' = (x y : ℕ) → Inside l region g x y → get_or plane (index_of g x y) 0 ≡ get_or plane' (index_of g x y) 0

-- ---- the luma sample at a sample's place

module _ (l : Layout) (column_ratio row_ratio line : ℕ) where
  abbrev g : Plane
  g = plane_of l column_ratio row_ratio line

  -- the luma sample is of the same CTB
  pub luma-ctb : (x y : ℕ) → ctb_at (luma_plane l) (luma_position g.columns x) (luma_position g.rows y) ≡ ctb_at g x y
  unfolding plane_of
  luma-ctb x y = simp mul-one

  -- the luma sample lies inside where the sample does
  pub luma-inside : (region : List ℕ) (x y : ℕ) → Inside l region g x y
      → Inside l region (luma_plane l) (luma_position g.columns x) (luma_position g.rows y)
  unfolding plane_of
  luma-inside region x y s = record {
    column = omega (arith, lt_own column_ratio l.picture.width x s.column);
    row = omega (arith, lt_own row_ratio l.picture.height y s.row);
    position = simp mul-one s.position;
  }
