-- What is behind a loop passed. Assumes nothing.
use Rattle.std.proofs.Common.{◌≡◌, true, ◌-◌}
use Rattle.alf_spec.specs.Faults.{corner_at, corners_in_row}
use Rattle.alf_spec.proofs.Scans.{Passed}
use Rattle.alf_validate_layout.proofs.corners.corners_valid.Given as goal

abbrev pub invariant-corners : goal.invariant-corners
invariant-corners g l = record {
  good : l.good ≡ true;
  rows : Passed (l.rows - 1) (corners_in_row g.R.CornerRule.rule l.map l.columns) l.y;
}

abbrev pub invariant-loop-x : goal.invariant-loop-x
invariant-loop-x g l = record {
  good : l.good ≡ true;
  corners : Passed (l.columns - 1) (corner_at g.R.CornerRule.rule l.map l.columns l.from) l.x;
}
