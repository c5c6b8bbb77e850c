use Rattle.std.proofs.Common.{◌<◌, rules}
use Rattle.alf_spec.specs.Process.{class_number}
use Rattle.alf_direction.proofs.Gradients.{class_small}
use Rattle.alf_classify.specs.Windows.{column_sums}
use Rattle.alf_classify.proofs.blocks.block_class.Goals as goal

-- the number fits a byte
pub overflow_mul-result : goal.overflow_mul-result
overflow_mul-result c =
    let small : class_number c.class_of_sums-class.result < 128 = rw c.class_of_sums-class.ensures (class_small _ _ _) in search rules

pub overflow_add-result : goal.overflow_add-result
overflow_add-result c =
    let small : class_number c.class_of_sums-class.result < 128 = rw c.class_of_sums-class.ensures (class_small _ _ _) in search rules

pub overflow_cast-result : goal.overflow_cast-result
overflow_cast-result c =
    let small : class_number c.class_of_sums-class.result < 128 = rw c.class_of_sums-class.ensures (class_small _ _ _) in search rules

pub returns : goal.returns
unfolding column_sums
returns c = rw (c.class_of_sums-class.ensures, c.block_sum.ensures.0, c.block_sum-2.ensures.0, c.block_sum-3.ensures.0, c.block_sum-4.ensures.0)
