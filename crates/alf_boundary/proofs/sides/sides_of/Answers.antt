-- The CTBs next to a CTB have their entries in the tables, and what those say is what the definitions say. Assumes nothing.
use Rattle.alf_spec.specs.Geometry.{before, after}
use Rattle.alf_boundary.specs.Tables.{with_virtual}
use Rattle.alf_boundary.proofs.CtbSides.{sides_are}
use Rattle.alf_boundary.proofs.Tables.{in_tables, beside_reached, stacked_reached, diagonal_reached}
use Rattle.alf_boundary.proofs.sides.sides_of.Goals as goal

pub origin_of-origin-requires : goal.origin_of-origin-requires
origin_of-origin-requires c = in_tables c.requires.1 _ c.requires.2 c.requires.3

pub axis_causes-across-requires : goal.axis_causes-across-requires
axis_causes-across-requires c =
    let reached = beside_reached c.requires.1 _ c.requires.2 c.requires.3 in
    rw (c.neighbours_of-near.ensures, c.origin_of-origin.ensures) (reached before, reached after)

pub axis_causes-down-requires : goal.axis_causes-down-requires
axis_causes-down-requires c =
    let reached = stacked_reached c.requires.1 _ c.requires.2 c.requires.3 in
    rw (c.neighbours_of-near.ensures, c.origin_of-origin.ensures) (reached before, reached after)

pub corner_disabled-requires : goal.corner_disabled-requires
corner_disabled-requires c =
    rw (c.neighbours_of-near.ensures, c.origin_of-origin.ensures) (diagonal_reached c.requires.1 _ c.requires.2 c.requires.3 before).slice

pub corner_disabled-requires-2 : goal.corner_disabled-requires-2
corner_disabled-requires-2 c =
    rw (c.neighbours_of-near.ensures, c.origin_of-origin.ensures) (diagonal_reached c.requires.1 _ c.requires.2 c.requires.3 after).slice

pub returns : goal.returns
returns c columns rows =
    rw (
      c.axis_causes-across.ensures,
      c.axis_causes-down.ensures,
      c.corner_disabled.ensures,
      c.corner_disabled-2.ensures,
      c.neighbours_of-near.ensures,
      c.origin_of-origin.ensures,
    ) (sides_are (with_virtual columns rows c.args.layout.now) c.args.grid c.requires.0 c.args.ctb)
