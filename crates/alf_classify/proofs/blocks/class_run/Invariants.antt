use Rattle.alf_lists.specs.Regions.{between}
use Rattle.alf_lists.proofs.Painted.{Paint}
use Rattle.alf_classify.specs.Windows.{column_class}
use Rattle.alf_classify.proofs.blocks.class_run.Given as goal

-- the numbers of m blocks are written
abbrev pub invariant-loop-m : goal.invariant-loop-m
invariant-loop-m l = Paint l.fn.map (between l.at l.m) (column_class l.columns l.scale.factor l.scale.depth l.at) l.map
