-- The table of the sides of all CTBs of a layout. Assumes nothing.
use Rattle.std.specs.Prelude.{List, ℕ, ◌<◌, get_or}
use Rattle.alf_spec.specs.Input.{Layout}
use Rattle.alf_spec.specs.Geometry.{total_ctbs, ctb_of}
use Rattle.alf_boundary.specs.Tables.{SidesOf}
use Rattle.alf_sides.specs.Entries.{sides_in}

-- the entry at the address of each CTB holds its sides and corners
abbrev pub SidesPlanned : Layout → List ℕ → Type 0
SidesPlanned l table = (k : ℕ) → k < total_ctbs l → SidesOf l (ctb_of l k) (sides_in (get_or table k 0))
