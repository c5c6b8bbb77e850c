-- Each turn stores one number. Assumes nothing.
use Rattle.std.proofs.Common.{arith, pos, w16}
use Rattle.alf_math.proofs.Magnitude.{returned}
use Rattle.alf_lists.proofs.Pasted.{paste_more, paste_done}
use Rattle.alf_bank.proofs.WrittenFiles.{numbers-length}
use Rattle.alf_op_bank_read.proofs.fill.fill_field.Goals as goal

pub loop-j-preserved : goal.loop-j-preserved
loop-j-preserved c =
    let n = numbers-length c.args.field.now in
    paste_more (pos 0) _ c.loop-j.invariant (omega arith) (omega arith) (returned w16 c.number_at.type_inv c.number_at.ensures)

pub returns : goal.returns
returns c = let n = numbers-length c.args.field.now in paste_done c.loop-j.invariant (omega arith)
