-- The rows of blocks that are behind it passed. Assumes nothing.
use Rattle.std.proofs.Common.{◌+◌}
use Rattle.alf_spec.proofs.Scans.{Passed}
use Rattle.alf_isolation.specs.Steps.{row_test}
use Rattle.alf_isolation.proofs.regions.ctb_passes.Given as goal

abbrev pub invariant-loop-j : goal.invariant-loop-j
invariant-loop-j l =
    Passed l.j-end
    (λ k. row_test l.layout.picture l.size l.layout.virtual_columns l.layout.virtual_rows l.region l.sides l.left l.count (l.top + k)) l.j
