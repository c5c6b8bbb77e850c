-- The isolation test of a CTB by its sides: which steps out of a block are open, and what the code tests, block by block. `proofs/CtbSteps`
-- shows it to be the test of the CTB in `Blocks`. Sizes and positions are in luma samples, x and y count blocks. Assumes nothing.
use Rattle.std.specs.Prelude.{◌≡◌, Bool, false, not, ◌&&◌, ◌||◌, List, ℕ, ◌+◌, ◌-◌, ◌*◌, ◌/◌, ◌%◌, ◌<◌, ◌≤◌, min, eqb, ltb, length, get_or}
use Rattle.alf_spec.specs.declared.Ctb.{Ctb}
use Rattle.alf_spec.specs.declared.Picture.{Picture}
use Rattle.alf_spec.specs.declared.Sides.{Sides}
use Rattle.alf_spec.specs.Lists.{implies, all_below, elem}
use Rattle.alf_spec.specs.Input.{Layout}
use Rattle.alf_spec.specs.Geometry.{ctb_of}
use Rattle.alf_spec.specs.Boundary.{disables}
use Rattle.alf_isolation.specs.declared.axis.BlockEnds.{BlockEnds}
use Rattle.alf_isolation.specs.declared.steps.BlockSides.{BlockSides}
use Rattle.alf_isolation.specs.Blocks.{ctb_passes}

-- ---- steps

-- along an axis of this size and CTB size: a step across the boundary b is open. The CTB's side counts where b is one: `disabled` is that
-- side's.
unfoldable pub step_open : ℕ → ℕ → List ℕ → Bool → ℕ → Bool
step_open size ctb boundaries disabled b =
    (ltb 0 b && ltb b size) && (not (elem b boundaries) && (not (eqb (b % ctb) 0) || not disabled))

-- the ends of block x along an axis, in a CTB at whose ends filtering is disabled or not: no step is open across the block's own end, and
-- the CTB ends there too
abbrev pub block_ends : ℕ → ℕ → List ℕ → Bool → Bool → ℕ → BlockEnds
block_ends size ctb boundaries disabled_before disabled_after x = record {
  closed_before = not (step_open size ctb boundaries disabled_before (8 * x));
  closed_after = not (step_open size ctb boundaries disabled_after (8 * x + 8));
  ctb_before = eqb ((8 * x) % ctb) 0;
  ctb_after = eqb ((8 * x + 8) % ctb) 0;
}

-- the sides of the row of blocks y in a CTB with the sides s: a corner counts where the CTB ends
unfoldable pub row_sides : ℕ → ℕ → List ℕ → Sides → ℕ → BlockSides
row_sides height ctb boundaries s y =
    let ends = block_ends height ctb boundaries (disables s.top) (disables s.bottom) y in
    record {
      left = disables s.left;
      right = disables s.right;
      top = ends.closed_before;
      bottom = ends.closed_after;
      upper_left = ends.ctb_before && s.upper_left;
      lower_right = ends.ctb_after && s.lower_right;
    }

-- the sides of the block at column x in a row with the sides s: a corner counts where the CTB ends
unfoldable pub block_sides : ℕ → ℕ → List ℕ → BlockSides → ℕ → BlockSides
block_sides width ctb boundaries s x =
    let ends = block_ends width ctb boundaries s.left s.right x in
    record {
      left = ends.closed_before;
      right = ends.closed_after;
      top = s.top;
      bottom = s.bottom;
      upper_left = ends.ctb_before && s.upper_left;
      lower_right = ends.ctb_after && s.lower_right;
    }

-- ---- blocks, by their index in a region of so many columns

-- block k is in the region
abbrev pub inside_at : List ℕ → ℕ → Bool
inside_at region k = eqb (get_or region k 0) 1

-- every block next to block k is in the region, over each side and corner of k that is not disabled: left and right, above and below, and
-- diagonally, where a corner is passed only if both sides at it are
unfoldable pub neighbours_inside : List ℕ → ℕ → ℕ → BlockSides → Bool
neighbours_inside region columns k s =
    ((s.left || inside_at region (k - 1)) && (s.right || inside_at region (k + 1)))
    && (((s.top || inside_at region (k - columns)) && (s.bottom || inside_at region (k + columns)))
    && ((((s.left || (s.top || s.upper_left)) || inside_at region (k - (columns + 1)))
    && ((s.left || s.bottom) || inside_at region (k + (columns - 1))))
    && (((s.right || s.top) || inside_at region (k - (columns - 1)))
    && ((s.right || (s.bottom || s.lower_right)) || inside_at region (k + (columns + 1))))))

-- ---- a CTB

-- the blocks of the CTB at place q of an axis: the last CTB may not be whole
unfoldable pub blocks_along : ℕ → ℕ → ℕ → ℕ
blocks_along size ctb q = min (ctb / 8) (size / 8 - q * (ctb / 8))

-- the block at column x, in the row of blocks that begins at `from` and has the sides s
unfoldable pub block_test : ℕ → ℕ → List ℕ → List ℕ → ℕ → BlockSides → ℕ → Bool
block_test width ctb virtual_columns region from s x =
    implies (inside_at region (from + x)) (neighbours_inside region (width / 8) (from + x) (block_sides width ctb virtual_columns s x))

module _ (p : Picture) (ctb : ℕ) (virtual_columns virtual_rows region : List ℕ) where
  -- so many blocks from column `first` on, in row y of blocks of a CTB with the sides s
  unfoldable pub row_test : Sides → ℕ → ℕ → ℕ → Bool
  row_test s first count y =
      all_below count (λ i.
      block_test p.width ctb virtual_columns region (y * (p.width / 8)) (row_sides p.height ctb virtual_rows s y) (first + i))

  -- every row of blocks of the CTB c with the sides s
  unfoldable pub ctb_test : Ctb → Sides → Bool
  ctb_test c s =
      all_below (blocks_along p.height ctb c.row) (λ j.
      row_test s (c.column * (ctb / 8)) (blocks_along p.width ctb c.column) (c.row * (ctb / 8) + j))

-- the test in `Blocks` of the CTB at address k
unfoldable pub address_passes : Layout → List ℕ → ℕ → Bool
address_passes l region k = ctb_passes l region (ctb_of l k)

-- ---- what the code is given

-- a picture of whole blocks, a CTB size, and a region with a number for each block
pub record BlocksOf (p : Picture) (ctb : ℕ) (region : List ℕ) : Type 0 where
  pub ctb_low : 32 ≤ ctb
  pub ctb8 : ctb % 8 ≡ 0
  pub width_high : p.width ≤ 4096
  pub width8 : p.width % 8 ≡ 0
  pub height_high : p.height ≤ 4096
  pub height8 : p.height % 8 ≡ 0
  pub numbers : length region ≡ p.width / 8 * (p.height / 8)

-- a row of blocks that begins at `from`, with the sides s: it lies in the region of n numbers, and so do the rows next to it where a step
-- leads there
pub record RowIn (width ctb n from : ℕ) (s : BlockSides) : Type 0 where
  pub ctb_low : 32 ≤ ctb
  pub width_high : width ≤ 4096
  pub width8 : width % 8 ≡ 0
  pub few : n ≤ 262144
  pub here : from + width / 8 ≤ n
  pub top : s.top ≡ false → width / 8 ≤ from
  pub bottom : s.bottom ≡ false → from + width / 8 + width / 8 ≤ n

-- block k with the sides s: it lies in the region of n numbers, and so do the blocks next to it where a step leads there
pub record BlockIn (n columns k : ℕ) (s : BlockSides) : Type 0 where
  pub wide : 0 < columns
  pub small : columns ≤ 512
  pub here : k < n
  pub left : s.left ≡ false → 1 ≤ k
  pub right : s.right ≡ false → k + 1 < n
  pub top : s.top ≡ false → columns ≤ k
  pub bottom : s.bottom ≡ false → k + columns < n
  pub upper_left : s.left ≡ false → s.top ≡ false → columns + 1 ≤ k
  pub lower_right : s.right ≡ false → s.bottom ≡ false → k + (columns + 1) < n
