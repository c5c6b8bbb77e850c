-- A write at address k keeps the entries before it, and adds the sides of its own CTB. Assumes nothing.
use Rattle.std.proofs.Common.{◌<◌, length, arith}
use Rattle.alf_boundary.specs.Tables.{with_virtual}
use Rattle.alf_math.proofs.Grids.{grid-columns, grid_total}
use Rattle.alf_sides.proofs.EntrySides.{entry_sides, next-sides}
use Rattle.alf_sides.proofs.table.plan_sides.Goals as goal

pub loop-k-preserved : goal.loop-k-preserved
loop-k-preserved c columns rows =
    let in_table : c.loop-k.k < length c.loop-k.table = omega arith in
    next-sides (with_virtual columns rows c.args.layout.now) c.args.grid.columns c.loop-k.table c.loop-k.k c.entry_of.result in_table
    (c.loop-k.invariant columns rows)
    (entry_sides (c.sides_of-sides.ensures columns rows) c.entry_of.ensures)

pub returns : goal.returns
returns c = (
  omega arith,
  λ columns rows k below.
      rw (← (grid-columns (with_virtual columns rows c.args.layout.now) _ c.requires.0)) (c.loop-k.invariant columns rows k
      (omega (arith, c.loop-k-test.false, grid_total (with_virtual columns rows c.args.layout.now) _ c.requires.0))),
)
