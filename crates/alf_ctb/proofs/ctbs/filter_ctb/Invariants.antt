use Rattle.alf_pieces.specs.Walks.{Stands}
use Rattle.alf_pieces.proofs.CtbWalks.{ahead}
use Rattle.alf_taps.specs.Spread.{TapNumbers}
use Rattle.alf_ctb.specs.FilterWork.{AxesFiltered, passed_by}
use Rattle.alf_ctb.proofs.ctbs.filter_ctb.Given as goal

-- the pieces that are passed are filtered
abbrev pub invariant-loop-at : goal.invariant-loop-at
invariant-loop-at l = record {
  stands : Stands l.axes l.at;
  numbers : TapNumbers l.taps;
  filtered : AxesFiltered l.filter l.planes l.sides l.axes l.filters (passed_by l.filter l.planes.layout.picture l.axes l.at)
      l.initial.output l.output;
}

-- what is left of the walk
abbrev pub decreases-loop-at : goal.decreases-loop-at
decreases-loop-at l = ahead l.axes l.at
