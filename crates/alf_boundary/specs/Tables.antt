-- The tables that say of which tile, slice and subpicture a CTB is, and a CTB's sides as code has them. Assumes nothing.
use Rattle.std.specs.Prelude.{◌≡◌, true, List, ℕ, ◌*◌, ltb, length}
use Rattle.alf_spec.specs.declared.Ctb.{Ctb}
use Rattle.alf_spec.specs.declared.Grid.{Grid}
use Rattle.alf_spec.specs.declared.Sides.{Sides}
use Rattle.alf_spec.specs.Lists.{every}
use Rattle.alf_spec.specs.Input.{Layout, layout_of}
use Rattle.alf_spec.specs.Geometry.{before, after}
use Rattle.alf_spec.specs.Boundary.{column_side, row_side, corner_disabled}

-- the layout's tables have the grid's lengths, and each subpicture number has a switch
pub record MembershipTables (g : Grid) (l : Layout) : Type 0 where
  pub columns_length : length l.tile_columns ≡ g.columns
  pub rows_length : length l.tile_rows ≡ g.rows
  pub slice_length : length l.slice_map ≡ g.columns * g.rows
  pub subpic_length : length l.subpic_map ≡ g.columns * g.rows
  pub switch_length : length l.subpic_across ≡ 64
  pub subpictures : every (λ n. ltb n 64) l.subpic_map ≡ true

-- the layout with these virtual boundaries in the place of its own: they play no part in the sides of a CTB
abbrev pub with_virtual : List ℕ → List ℕ → Layout → Layout
with_virtual columns rows l =
    layout_of l.picture columns rows l.tile_columns l.tile_rows l.slice_map l.subpic_map l.subpic_across

-- the sides and corners of the CTB c
pub record SidesOf (l : Layout) (c : Ctb) (s : Sides) : Type 0 where
  pub left : s.left ≡ column_side l c before
  pub right : s.right ≡ column_side l c after
  pub top : s.top ≡ row_side l c before
  pub bottom : s.bottom ≡ row_side l c after
  pub upper_left : s.upper_left ≡ corner_disabled l c before
  pub lower_right : s.lower_right ≡ corner_disabled l c after
