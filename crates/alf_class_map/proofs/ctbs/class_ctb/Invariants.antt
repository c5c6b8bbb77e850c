use Rattle.std.proofs.Common.{◌/◌}
use Rattle.alf_pieces.specs.Walks.{Stands, passed}
use Rattle.alf_pieces.proofs.CtbWalks.{ahead}
use Rattle.alf_class_map.specs.ClassWork.{AxesClassified}
use Rattle.alf_class_map.proofs.ctbs.class_ctb.Given as goal

-- the pieces that are passed are classified
abbrev pub invariant-loop-at : goal.invariant-loop-at
invariant-loop-at l = record {
  stands : Stands l.axes l.at;
  classified : AxesClassified l.frame.picture l.sides l.axes l.luma (passed (l.frame.picture.width / 4) 4 4 l.axes l.at) l.fn.map l.map;
}

abbrev pub decreases-loop-at : goal.decreases-loop-at
decreases-loop-at l = ahead l.axes l.at
