-- What the tests of a layout say, in the numbers of its CTB grid. Assumes nothing.
use Rattle.std.proofs.Common.{◌≡◌, true, sym, ◌∙◌, ℕ, ◌+◌, ◌-◌, ◌*◌, ◌<◌, ◌≤◌, Bool, ◌&&◌, List, length, eqb, ltb, arith}
use Rattle.std.proofs.Math.Nat.{mul-le-mul_right, mul_comm, add-mul}
use Rattle.alf_spec.specs.declared.Grid.{Grid}
use Rattle.alf_spec.specs.Lists.{within, all_below, every}
use Rattle.alf_spec.specs.Input.{Layout}
use Rattle.alf_spec.specs.Faults.{layout_lengths_valid, slice_corner, subpic_corner, corners_in_row, corners_valid, slices_valid}
use Rattle.alf_spec.specs.Faults.{subpictures_valid}
use Rattle.alf_spec.proofs.Scans.{every_up_to}
use Rattle.alf_spec.proofs.Accepted.{table_lengths}
use Rattle.alf_math.specs.Grids.{GridOf}
use Rattle.alf_math.proofs.Grids.{grid-columns, grid-rows, grid_total}

module _ (l : Layout) (g : Grid) (h : GridOf l.picture g) where
  -- the lengths that the sizes call for
  pub lengths_by_grid : layout_lengths_valid l
      ≡ (within 1 256 l.picture.slice_count
      && (eqb (length l.tile_columns) g.columns && (eqb (length l.tile_rows) g.rows
      && (eqb (length l.slice_map) (g.columns * g.rows) && (eqb (length l.subpic_map) (g.columns * g.rows)
      && eqb (length l.subpic_across) 64)))))
  unfolding layout_lengths_valid
  lengths_by_grid = rw (grid-columns l g h, grid-rows l g h)

  corners_by_grid : (rule : ℕ → ℕ → ℕ → ℕ → Bool) (map : List ℕ) → corners_valid rule l map
      ≡ all_below (g.rows - 1) (corners_in_row rule map g.columns)
  unfolding corners_valid
  corners_by_grid rule map = rw (grid-columns l g h, grid-rows l g h)

  -- the code has the answers of the slice map's numbers and of its corners
  pub slices_by_grid : {a b : Bool} → a ≡ every (λ n. ltb n l.picture.slice_count) l.slice_map
      → b ≡ all_below (g.rows - 1) (corners_in_row slice_corner l.slice_map g.columns) → (a && b) ≡ slices_valid l
  unfolding slices_valid
  slices_by_grid x y = rw (x, y, corners_by_grid slice_corner l.slice_map)

  -- and those of the subpicture map's numbers, of the switches and of the corners
  pub subpictures_by_grid : {a b c : Bool} → a ≡ every (λ n. ltb n 64) l.subpic_map → b ≡ every (λ n. ltb n 2) l.subpic_across
      → c ≡ all_below (g.rows - 1) (corners_in_row subpic_corner l.subpic_map g.columns) → (a && (b && c)) ≡ subpictures_valid l
  unfolding subpictures_valid
  subpictures_by_grid x y z = rw (x, y, z, corners_by_grid subpic_corner l.subpic_map, every_up_to 1 l.subpic_across)

  -- where cause 5 does not apply, each map has a number for each CTB
  module _ (valid : layout_lengths_valid l ≡ true) where
    pub slice_map_full : length l.slice_map ≡ g.columns * g.rows
    slice_map_full = (table_lengths l valid).slice_map ∙ sym (grid_total l g h)

    pub subpic_map_full : length l.subpic_map ≡ g.columns * g.rows
    subpic_map_full = (table_lengths l valid).subpic_map ∙ sym (grid_total l g h)

pub ruleset full_maps = (slice_map_full, subpic_map_full)

-- two rows of a map, of which the first is row y
pub two_rows : (n columns rows y : ℕ) → n ≡ columns * rows → y + 1 < rows → y * columns + columns + columns ≤ n
two_rows n columns rows y e h =
    let two : (y + 2) * columns ≤ rows * columns = mul-le-mul_right columns (omega arith) in
    omega (arith, mul_comm columns rows, add-mul y 2 columns)
