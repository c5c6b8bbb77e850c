-- The CTBs that are behind it passed. Assumes nothing.
use Rattle.std.proofs.Common.{◌*◌}
use Rattle.alf_spec.proofs.Scans.{Passed}
use Rattle.alf_isolation.specs.Steps.{address_passes}
use Rattle.alf_isolation.proofs.regions.region_isolated.Given as goal

abbrev pub invariant-loop-k : goal.invariant-loop-k
invariant-loop-k l = Passed (l.grid.columns * l.grid.rows) (address_passes l.layout l.region) l.k
