-- Each turn stores one byte. Assumes nothing.
use Rattle.std.proofs.Common.{arith}
use Rattle.alf_lists.proofs.Pasted.{paste_more, paste_done}
use Rattle.alf_op_bank_write.proofs.FieldBytes.{bytes_length}
use Rattle.alf_op_bank_write.proofs.fields.write_field.Goals as goal

pub loop-k-preserved : goal.loop-k-preserved
loop-k-preserved c =
    let n = bytes_length c.args.filter.bank.now c.args.filter.id in
    paste_more 0 _ c.loop-k.invariant (omega arith) (omega arith) c.field_byte.ensures

pub returns : goal.returns
returns c = let n = bytes_length c.args.filter.bank.now c.args.filter.id in paste_done c.loop-k.invariant (omega arith)
