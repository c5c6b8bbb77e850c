-- What decides at the sides and corners of a CTB, and why filtering across them is disabled, as code has it. Assumes nothing.
use Rattle.std.specs.Prelude.{Bool, not, ◌&&◌, cond, ℕ, ◌+◌, ◌*◌, eqb, get_or}
use Rattle.alf_spec.specs.declared.ClipCause.{ClipCause}
use Rattle.alf_spec.specs.declared.ClipCause.TheVariants.{Open, Tile, Slice, Subpicture}
use Rattle.alf_spec.specs.declared.Ctb.{Ctb}
use Rattle.alf_spec.specs.Input.{Layout}
use Rattle.alf_boundary.specs.declared.memberships.Membership.{Membership}
use Rattle.alf_boundary.specs.declared.sides.AxisCauses.{AxisCauses}
use Rattle.alf_boundary.specs.declared.sides.Origin.{Origin}
use Rattle.alf_boundary.specs.Memberships.{membership_at}

-- the step into a CTB of this slice is disabled, by slices
abbrev pub slice_step_disabled : Origin → ℕ → Bool
slice_step_disabled o slice = not (eqb o.own.slice slice) && not o.across_slices

-- what disables the step into a CTB of this membership
abbrev pub cause_into : Origin → Membership → ClipCause
cause_into o n =
    cond (not (eqb o.own.tile_column n.tile_column && eqb o.own.tile_row n.tile_row) && not o.across_tiles) Tile
    (cond (slice_step_disabled o n.slice) Slice
    (cond (not (eqb o.own.subpic n.subpic) && not o.own.across_subpic) Subpicture Open))

module _ (l : Layout) where
  -- what decides at the sides of the CTB c, in a grid with so many CTBs in a row
  abbrev pub origin_at : ℕ → Ctb → Origin
  origin_at columns c = record {
    own = membership_at l columns c;
    across_tiles = l.picture.across_tiles;
    across_slices = l.picture.across_slices;
    columns = columns;
  }

  -- why filtering across the side toward the CTB n is disabled
  abbrev pub cause_toward : Origin → Ctb → ClipCause
  cause_toward o n = cause_into o (membership_at l o.columns n)

  -- why filtering across the two sides along one axis is disabled, by the CTBs next to them
  abbrev pub axis_causes : Origin → Ctb → Ctb → AxisCauses
  axis_causes o m n = record { before = cause_toward o m; after = cause_toward o n }

  -- the corner toward the CTB n is disabled: the step into its slice is
  abbrev pub corner_toward : Origin → Ctb → Bool
  corner_toward o n = slice_step_disabled o (get_or l.slice_map (n.row * o.columns + n.column) 0)
