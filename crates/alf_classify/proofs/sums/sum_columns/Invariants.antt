use Rattle.alf_lists.specs.Regions.{between}
use Rattle.alf_lists.proofs.Painted.{Paint}
use Rattle.alf_classify.specs.Windows.{column_from}
use Rattle.alf_classify.proofs.sums.sum_columns.Given as goal

-- x of the sums are written
abbrev pub invariant-loop-x : goal.invariant-loop-x
invariant-loop-x g l = Paint l.fn.sums (between 0 l.x) (column_from l.d l.pitch g.row.PAIRS l.from) l.sums
