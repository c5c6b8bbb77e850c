-- The CTBs next to a CTB as code has them. Assumes nothing.
use Rattle.std.specs.Prelude.{◌&&◌, cond, ℕ, Option, Some, None}
use Rattle.alf_spec.specs.declared.Ctb.{Ctb}
use Rattle.alf_spec.specs.declared.Grid.{Grid}
use Rattle.alf_spec.specs.Geometry.{Side, before, after, next, has_next}
use Rattle.alf_spec.specs.Boundary.{beside_ctb, stacked_ctb, diagonal_ctb}
use Rattle.alf_boundary.specs.declared.neighbours.AxisNeighbours.{AxisNeighbours}
use Rattle.alf_boundary.specs.declared.neighbours.Neighbours.{Neighbours}

-- the place next to x of n along an axis on that side, where there is one
abbrev pub place_next : ℕ → Side → ℕ → Option ℕ
place_next n d x = cond (has_next n d x) (Some (next d x)) None

-- what is next to place x of n along an axis
abbrev pub neighbours_along : ℕ → ℕ → AxisNeighbours
neighbours_along n x = record { before = place_next n before x; after = place_next n after x }

-- the CTB at a column and a row where there are both, and c where there is none
abbrev pub ctb_or_own : Option ℕ → Option ℕ → Ctb → Ctb
ctb_or_own (Some x) (Some y) c = record { column = x; row = y }
ctb_or_own (Some x) None c = c
ctb_or_own None y c = c

-- the CTBs next to c, each where there is one and c itself where there is none
module _ (g : Grid) (c : Ctb) where
  -- the CTB left or right of c
  abbrev pub beside : Side → Ctb
  beside d = cond (has_next g.columns d c.column) (beside_ctb d c) c

  -- the CTB above or below c
  abbrev pub stacked : Side → Ctb
  stacked d = cond (has_next g.rows d c.row) (stacked_ctb d c) c

  -- the CTB up-left or down-right of c
  abbrev pub diagonal : Side → Ctb
  diagonal d = cond (has_next g.columns d c.column && has_next g.rows d c.row) (diagonal_ctb d c) c

  -- all of them, by c's sides and corners
  abbrev pub neighbours_of : Neighbours
  neighbours_of = record {
    left = beside before;
    right = beside after;
    above = stacked before;
    below = stacked after;
    upper_left = diagonal before;
    lower_right = diagonal after;
  }
