-- The rule, once for each side. Assumes nothing.
use Rattle.std.proofs.Common.{◌<◌, ap}
use Rattle.alf_spec.specs.Input.{Layout}
use Rattle.alf_spec.proofs.Accepted.{AcceptedLayout, accepted_position}
use Rattle.alf_math.specs.Grids.{GridOf}
use Rattle.alf_boundary.specs.Clips.{InCtb}
use Rattle.alf_op_causes.proofs.Positions.{in_grid, bounded, causes_are}
use Rattle.alf_op_causes.proofs.causes.causes_at.Goals as goal
use Rattle.alf_op_causes.proofs.causes.causes_at.Goals.{Start, After-grid-grid, After-row_axis-rows}

-- the layout is accepted, and the position lies in the picture
accepted : (c : Start) → let l = c.args.layout.now in AcceptedLayout l × (c.args.x < l.picture.width) × (c.args.y < l.picture.height)
accepted c = accepted_position c.args.layout.now c.args.x c.args.y c.requires

pub grid-grid-requires : goal.grid-grid-requires
grid-grid-requires c =
    let ok = (accepted (goal.at.grid-grid-requires c).Start).0 in
    rw (ap (λ (l : Layout). l.picture) c.layout.view_is) (ok.sizes, ok.ctb_size)

-- the grid is that of the layout's picture
own_grid : (c : After-grid-grid) → GridOf c.args.layout.now.picture c.grid-grid.result
own_grid c = rw (ap (λ (l : Layout). l.picture) c.layout.view_is) at c.grid-grid.ensures

pub sides_of-sides-requires : goal.sides_of-sides-requires
sides_of-sides-requires c =
    let at = goal.at.sides_of-sides-requires c in
    let ok = accepted at.Start in
    in_grid c.args.layout.now ok.0 (own_grid at.After-grid-grid) c.args.x c.args.y ok.1 ok.2

-- the position is one of the axes' CTB
small : (c : After-row_axis-rows) → AcceptedLayout c.args.layout.now → GridOf c.args.layout.now.picture c.grid-grid.result
    → (c.args.x < c.args.layout.now.picture.width) × (c.args.y < c.args.layout.now.picture.height)
    → InCtb c.column_axis-columns.result c.args.x × InCtb c.row_axis-rows.result c.args.y
small c ok grid inside =
    rw (c.column_axis-columns.ensures, c.row_axis-rows.ensures, ap (λ (l : Layout). l.picture) c.layout.view_is)
    (bounded c.args.layout.now ok grid c.args.x c.args.y inside.0 inside.1 c.sides_of-sides.result)

pub cause_at-requires : goal.cause_at-requires
cause_at-requires c =
    let at = goal.at.cause_at-requires c in
    let ok = accepted at.Start in
    (small at.After-row_axis-rows ok.0 (own_grid at.After-grid-grid) (ok.1, ok.2)).1

pub cause_at-requires-2 : goal.cause_at-requires-2
cause_at-requires-2 c =
    let at = goal.at.cause_at-requires-2 c in
    let ok = accepted at.Start in
    (small at.After-row_axis-rows ok.0 (own_grid at.After-grid-grid) (ok.1, ok.2)).1

pub cause_at-requires-3 : goal.cause_at-requires-3
cause_at-requires-3 c =
    let at = goal.at.cause_at-requires-3 c in
    let ok = accepted at.Start in
    (small at.After-row_axis-rows ok.0 (own_grid at.After-grid-grid) (ok.1, ok.2)).0

pub cause_at-requires-4 : goal.cause_at-requires-4
cause_at-requires-4 c =
    let at = goal.at.cause_at-requires-4 c in
    let ok = accepted at.Start in
    (small at.After-row_axis-rows ok.0 (own_grid at.After-grid-grid) (ok.1, ok.2)).0

pub returns : goal.returns
returns c =
    let at = goal.at.returns c in
    let ok = accepted at.Start in
    let picture = ap (λ (l : Layout). l.picture) c.layout.view_is in
    let across = ap (λ (l : Layout). l.virtual_columns) c.layout.view_is in
    let down = ap (λ (l : Layout). l.virtual_rows) c.layout.view_is in
    causes_are c.args.layout.now ok.0 (own_grid at.After-grid-grid) c.args.x c.args.y ok.1 ok.2 (c.sides_of-sides.ensures _ _)
    (rw (c.row_axis-rows.ensures, picture, down) at c.cause_at.ensures)
    (rw (c.row_axis-rows.ensures, picture, down) at c.cause_at-2.ensures)
    (rw (c.column_axis-columns.ensures, picture, across) at c.cause_at-3.ensures)
    (rw (c.column_axis-columns.ensures, picture, across) at c.cause_at-4.ensures)
