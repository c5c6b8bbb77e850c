-- The bytes so far stand in the file.
use Rattle.alf_lists.proofs.Pasted.{Pasted}
use Rattle.alf_op_bank_write.specs.FieldBytes.{field_bytes}
use Rattle.alf_op_bank_write.proofs.fields.write_field.Given as goal

abbrev pub invariant-loop-k : goal.invariant-loop-k
invariant-loop-k l = Pasted l.at (field_bytes l.filter.bank.now l.filter.id) l.initial.file l.k l.file
