-- The numbers before j are copied.
use Rattle.std.proofs.Common.{pos}
use Rattle.alf_lists.specs.Regions.{between}
use Rattle.alf_lists.specs.Filled.{Filled}
use Rattle.alf_params.specs.Numbers.{copied_from}
use Rattle.alf_params.proofs.filters.copy_numbers.Given as goal

abbrev pub invariant-loop-j : goal.invariant-loop-j
invariant-loop-j l = Filled (pos 0) l.initial.filters (between l.to l.j) (copied_from l.table l.from l.to) l.filters
