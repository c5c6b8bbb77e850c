-- The search ends, since each filter comes with a place farther on, and there are 64.
use Rattle.std.proofs.Common.{◌≤◌, ◌-◌}
use Rattle.cross_filters.proofs.print_offenders.Given as goal

abbrev pub invariant-loop-offender : goal.invariant-loop-offender
invariant-loop-offender g l = l.at ≤ 64

abbrev pub decreases-loop-offender : goal.decreases-loop-offender
decreases-loop-offender g l = 64 - l.at
