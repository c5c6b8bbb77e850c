-- The grid's numbers are those of each layout of this picture. Assumes nothing.
use Rattle.std.proofs.Common.{refl}
use Rattle.alf_validate_layout.proofs.Layouts.{slices_by_grid}
use Rattle.alf_validate_layout.proofs.maps.slices_valid.Goals as goal

pub returns-clause-part : goal.returns-clause-part
returns-clause-part c l e u =
    let picture = rw (← c.layout.view_is) at e in
    let map = rw (← c.layout.view_is) at u in
    slices_by_grid l c.args.grid (rw e c.requires.0) (rw (← picture, ← map) at c.bytes_below.ensures)
    (rw (← map) at c.corners_valid.ensures)

pub returns-clause-own : goal.returns-clause-own
returns-clause-own c = returns-clause-part c _ refl refl
