-- k filters are written.
use Rattle.alf_op_bank_write.proofs.Files.{Progress}
use Rattle.alf_op_bank_write.proofs.write_filters.Given as goal

abbrev pub invariant-loop-k : goal.invariant-loop-k
invariant-loop-k l = Progress l.bank l.initial.file l.k l.at l.file
