use Rattle.std.proofs.Common.{◌+◌, pos}
use Rattle.alf_lists.specs.Regions.{in_rect}
use Rattle.alf_lists.specs.Filled.{Filled}
use Rattle.alf_luma.specs.SpreadFilters.{number_from}
use Rattle.alf_luma.proofs.spread.put_filter.Given as goal

-- the numbers before j are spread
abbrev pub invariant-loop-j : goal.invariant-loop-j
invariant-loop-j l =
    Filled (pos 0) l.initial.taps (in_rect 128 l.to (l.to + 4) 0 l.j) (number_from l.filters l.from l.orders l.at) l.taps
