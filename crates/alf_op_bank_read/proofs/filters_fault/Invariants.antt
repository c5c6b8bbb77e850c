-- The fields that are left come to the same fault as all of them, and each turn takes one.
use Rattle.std.proofs.Common.{◌≡◌, ◌≤◌, ◌-◌, length, drop}
use Rattle.alf_bank.specs.Reading.{fields, filters_fault}
use Rattle.alf_op_bank_read.proofs.filters_fault.Given as goal

abbrev pub invariant-loop-next : goal.invariant-loop-next
invariant-loop-next l =
    let r = l.reader in
    record {
      within : r.here.at ≤ length r.file.now;
      left : filters_fault l.limit r.here.from (fields (drop r.here.at r.file.now) 0) ≡ filters_fault l.limit 0 (fields (drop 4 l.file) 0);
    }

abbrev pub decreases-loop-next : goal.decreases-loop-next
decreases-loop-next l = length l.reader.file.now - l.reader.here.at
