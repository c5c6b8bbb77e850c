-- What the table says of the CTB at an address, by the picture's grid as code has it. Assumes nothing.
use mathlib.Core.Path.{◌≡◌}
use mathlib.Core.List.{List}
use Prim.Native.Nat.{ℕ, ◌*◌, ◌/◌, ◌%◌, ◌<◌}
use lib.ListN.{get_or}
use Rattle.alf_spec.specs.declared.Grid.{Grid}
use Rattle.alf_spec.specs.declared.Sides.{Sides}
use Rattle.alf_spec.specs.Input.{Layout}
use Rattle.alf_math.specs.Grids.{GridOf}
use Rattle.alf_math.proofs.Grids.{grid-columns, grid_total}
use Rattle.alf_boundary.specs.Tables.{SidesOf}
use Rattle.alf_sides.specs.Entries.{sides_in}
use Rattle.alf_sides.specs.Planned.{SidesPlanned}

pub planned_sides : (l : Layout) {g : Grid} → GridOf l.picture g → (table : List ℕ) → SidesPlanned l table
    → (k : ℕ) → k < g.columns * g.rows → {s : Sides} → s ≡ sides_in (get_or table k 0)
    → SidesOf l (record { column = k % g.columns; row = k / g.columns }) s
planned_sides l grid table planned k below e = rw (grid-columns l _ grid, e) (planned k (rw (grid_total l _ grid) at below))
