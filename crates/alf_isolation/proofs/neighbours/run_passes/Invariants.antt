-- The blocks that are behind it passed. Assumes nothing.
use Rattle.std.proofs.Common.{◌+◌}
use Rattle.alf_spec.proofs.Scans.{Passed}
use Rattle.alf_isolation.specs.Steps.{block_test}
use Rattle.alf_isolation.proofs.neighbours.run_passes.Given as goal

abbrev pub invariant-loop-i : goal.invariant-loop-i
invariant-loop-i l =
    Passed l.count (λ j. block_test l.columns.size l.columns.ctb l.columns.boundaries.now l.region l.row.from l.row.sides (l.first + j)) l.i
