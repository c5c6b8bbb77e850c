-- The tile, slice and subpicture of a CTB as code has them. Assumes nothing.
use Rattle.std.specs.Prelude.{not, ℕ, ◌+◌, ◌*◌, ◌<◌, eqb, length, get_or}
use Rattle.alf_spec.specs.declared.Ctb.{Ctb}
use Rattle.alf_spec.specs.Input.{Layout}
use Rattle.alf_boundary.specs.declared.memberships.Membership.{Membership}

-- the tables of a layout, for a grid with this many CTBs in a row
module _ (l : Layout) (columns : ℕ) where
  -- they have entries for the CTB c
  pub record InTables (c : Ctb) : Type 0 where
    pub column : c.column < length l.tile_columns
    pub row : c.row < length l.tile_rows
    pub slice : c.row * columns + c.column < length l.slice_map
    pub subpic : c.row * columns + c.column < length l.subpic_map
    pub switch : get_or l.subpic_map (c.row * columns + c.column) 0 < length l.subpic_across

  -- what they say of it
  abbrev pub membership_at : Ctb → Membership
  membership_at c = record {
    tile_column = get_or l.tile_columns c.column 0;
    tile_row = get_or l.tile_rows c.row 0;
    slice = get_or l.slice_map (c.row * columns + c.column) 0;
    subpic = get_or l.subpic_map (c.row * columns + c.column) 0;
    across_subpic = not (eqb (get_or l.subpic_across (get_or l.subpic_map (c.row * columns + c.column) 0) 0) 0);
  }
