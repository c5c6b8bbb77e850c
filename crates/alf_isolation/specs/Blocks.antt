-- The isolation test by 8 by 8 blocks: what the code tests, which `proofs/Blocks` shows to be the definition over all samples. Assumes
-- nothing.
use Rattle.std.specs.Prelude.{Bool, ◌&&◌, List, ℕ, ◌+◌, ◌-◌, ◌*◌, ◌/◌, min, eqb, get_or}
use Rattle.alf_spec.specs.declared.Ctb.{Ctb}
use Rattle.alf_spec.specs.Lists.{implies, all_below}
use Rattle.alf_spec.specs.Input.{Layout}
use Rattle.alf_spec.specs.Geometry.{Side, before, after, next, Axis, samples, ctb_size, block_plane, index_of}
use Rattle.alf_spec.specs.Isolation.{column_step, row_step, diagonal_step, both_sides}

-- the first or the last sample of block b along an axis
abbrev pub edge : Side → ℕ → ℕ
edge before b = 8 * b
edge after b = 8 * b + 7

module _ (l : Layout) (region : List ℕ) where
  -- the block at this column and row of blocks is in the region
  unfoldable pub block_inside : ℕ → ℕ → Bool
  block_inside x y = eqb (get_or region (index_of (block_plane l) x y) 0) 1

  -- no open step goes from the block to a block outside: across its four sides and its four corners
  unfoldable pub block_stays : ℕ → ℕ → Bool
  block_stays x y =
      both_sides (λ d. implies (column_step l (edge d x) (edge before y) d) (block_inside (next d x) y))
      && (both_sides (λ e. implies (row_step l (edge before x) (edge e y) e) (block_inside x (next e y)))
      && both_sides (λ d. both_sides (λ e. implies (diagonal_step l (edge d x) (edge e y) d e) (block_inside (next d x) (next e y)))))

  -- the block at this column and row passes: it is not in the region, or no open step leads out of it
  unfoldable pub block_passes : ℕ → ℕ → Bool
  block_passes x y = implies (block_inside x y) (block_stays x y)

  -- every block of the picture passes
  unfoldable pub blocks_pass : Bool
  blocks_pass = all_below (samples (block_plane l).rows) (λ y. all_below (samples (block_plane l).columns) (λ x. block_passes x y))

-- the blocks along an axis in the CTB at place q: the last one may not be whole
unfoldable pub blocks_in : Axis → ℕ → ℕ
blocks_in a q = min (a.ctb / 8) (samples a - q * (a.ctb / 8))

-- every block of the CTB c passes
unfoldable pub ctb_passes : Layout → List ℕ → Ctb → Bool
ctb_passes l region c =
    all_below (blocks_in (block_plane l).rows c.row) (λ j.
    all_below (blocks_in (block_plane l).columns c.column) (λ i.
    block_passes l region (c.column * (ctb_size l.picture / 8) + i) (c.row * (ctb_size l.picture / 8) + j)))
