use Rattle.std.proofs.Common.{sym, arith}
use Rattle.alf_classify.proofs.ColumnSums.{column_none}
use Rattle.alf_classify.proofs.sums.column_sum.Goals as goal

pub loop-u-init : goal.loop-u-init
loop-u-init g c = record { is = sym (column_none _ _ _); small = omega arith }
