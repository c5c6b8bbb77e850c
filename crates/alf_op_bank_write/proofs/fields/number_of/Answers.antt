-- A number of the bank fits 16 bits. Assumes nothing.
use Rattle.std.proofs.Common.{rules, pos, get_or, w16, ◌+◌, FitsSigned}
use Rattle.alf_op_bank_write.proofs.FieldBytes.{number_is}
use Rattle.alf_op_bank_write.proofs.fields.number_of.Goals as goal

pub returns : goal.returns
returns c =
    let f : FitsSigned w16 (get_or c.args.filter.bank.now (c.start_of.result + c.args.j) (pos 0)) = search rules in
    number_is _ _ _ c.start_of.ensures f.sfits
