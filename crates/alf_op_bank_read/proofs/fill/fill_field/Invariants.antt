-- The numbers so far stand in the bank.
use Rattle.alf_lists.proofs.Pasted.{Pasted}
use Rattle.alf_bank.specs.Reading.{field_numbers}
use Rattle.alf_op_bank_read.proofs.fill.fill_field.Given as goal

abbrev pub invariant-loop-j : goal.invariant-loop-j
invariant-loop-j l = Pasted l.start (field_numbers l.field) l.initial.bank l.j l.bank
