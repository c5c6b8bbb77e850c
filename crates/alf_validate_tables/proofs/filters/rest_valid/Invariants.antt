-- The places behind the loop are tested.
use Rattle.std.proofs.Common.{pos, length, get_or}
use Rattle.alf_spec.specs.Faults.{bank_number_valid}
use Rattle.alf_spec.proofs.Scans.{Sofar}
use Rattle.alf_validate_tables.proofs.filters.rest_valid.Given as goal

abbrev pub invariant-loop-k : goal.invariant-loop-k
invariant-loop-k l = Sofar (length l.bank) (λ k. bank_number_valid l.bit_depth k (get_or l.bank k (pos 0))) l.k l.good
