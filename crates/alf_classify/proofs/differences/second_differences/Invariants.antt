use Rattle.alf_lists.specs.Regions.{between}
use Rattle.alf_lists.proofs.Painted.{Paint}
use Rattle.alf_classify.specs.Windows.{difference_from}
use Rattle.alf_classify.proofs.differences.second_differences.Given as goal

-- x of the differences are written
abbrev pub invariant-loop-x : goal.invariant-loop-x
invariant-loop-x l = Paint l.fn.differences (between l.first l.x) (difference_from l.copy l.step l.at) l.differences
