-- The sizes of an accepted picture keep the grid small.
use Rattle.alf_math.proofs.Grids.{log2_bounds, side_bounds, grid_of, rounded_up}
use Rattle.alf_math.proofs.grid.grid.Goals as goal

pub ctb_size-ctb-requires : goal.ctb_size-ctb-requires
ctb_size-ctb-requires c = log2_bounds _ c.requires.0 c.requires.1

pub returns : goal.returns
returns c =
    let side = side_bounds _ c.requires.0 c.requires.1 _ c.ctb_size-ctb.ensures in
    grid_of _ c.requires.0 c.requires.1 _ c.ctb_size-ctb.ensures _ _
    (rw (← rounded_up _ _ side.0) c.div_ceil.ensures) (rw (← rounded_up _ _ side.0) c.div_ceil-2.ensures)
