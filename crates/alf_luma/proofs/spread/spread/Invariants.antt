use Rattle.std.proofs.Common.{◌*◌, pos}
use Rattle.alf_lists.specs.Regions.{in_rect}
use Rattle.alf_lists.specs.Filled.{Filled}
use Rattle.alf_luma.specs.SpreadFilters.{spread_from}
use Rattle.alf_luma.proofs.spread.spread.Given as goal

-- the filters of the blocks before b are spread
abbrev pub invariant-loop-b : goal.invariant-loop-b
invariant-loop-b l =
    Filled (pos 0) l.initial.taps (in_rect 128 0 (4 * l.b) 0 24) (spread_from l.filters l.orders l.map l.at) l.taps
