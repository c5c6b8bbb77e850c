-- The entries before address k hold the sides of their CTBs. Assumes nothing.
use Rattle.std.proofs.Common.{List, ℕ, ◌/◌, ◌%◌, ◌<◌, get_or}
use Rattle.alf_boundary.specs.Tables.{SidesOf, with_virtual}
use Rattle.alf_sides.specs.Entries.{sides_in}
use Rattle.alf_sides.proofs.table.plan_sides.Given as goal

abbrev pub invariant-loop-k : goal.invariant-loop-k
invariant-loop-k l =
    (columns rows : List ℕ) (j : ℕ) → j < l.k
    → SidesOf (with_virtual columns rows l.layout) (record { column = j % l.grid.columns; row = j / l.grid.columns }) (sides_in (get_or l.table j 0))
