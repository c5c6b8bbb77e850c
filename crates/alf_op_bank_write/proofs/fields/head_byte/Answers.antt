-- Every filter's first leading number is its APS, and only a cross-component filter has a third. Assumes nothing.
use Rattle.std.proofs.Common.{arith}
use Rattle.alf_op_bank_write.proofs.FieldBytes.{head_aps, head_third}
use Rattle.alf_op_bank_write.proofs.fields.head_byte.Goals as goal

pub returns-in-3 : goal.returns-in-3
returns-in-3 c = head_aps _ c.in-3.is

pub returns-in_default : goal.returns-in_default
returns-in_default c = head_third _ _ (omega arith) c.requires
