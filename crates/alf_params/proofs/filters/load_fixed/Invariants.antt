-- The filters of the classes before `class` are there.
use Rattle.std.proofs.Common.{◌*◌, pos}
use Rattle.alf_lists.specs.Regions.{between}
use Rattle.alf_lists.specs.Filled.{Filled}
use Rattle.alf_params.specs.Numbers.{fixed_number}
use Rattle.alf_params.proofs.filters.load_fixed.Given as goal

abbrev pub invariant-loop-class : goal.invariant-loop-class
invariant-loop-class l =
    Filled (pos 0) l.initial.filters (between 0 (24 * l.class))
    (fixed_number l.depth l.set l.input.fixed_filters l.input.fixed_map) l.filters
