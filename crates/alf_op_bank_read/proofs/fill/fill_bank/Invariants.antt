-- With the filters that are left, the bank comes to what all fields come to, and each turn stores one.
use Rattle.std.proofs.Common.{◌≡◌, ◌≤◌, ◌-◌, length, drop}
use Rattle.alf_bank.specs.Reading.{fields, filters_fault, filled}
use Rattle.alf_op_bank_read.proofs.fill.fill_bank.Given as goal

abbrev pub invariant-loop-next : goal.invariant-loop-next
invariant-loop-next l =
    let r = l.reader in
    record {
      within : r.here.at ≤ length r.file.now;
      size : length l.bank ≡ 6016;
      good : filters_fault l.limit r.here.from (fields (drop r.here.at r.file.now) 0) ≡ 0;
      left : filled l.bank (fields (drop r.here.at r.file.now) 0) ≡ filled l.initial.bank (fields (drop 4 l.file) 0);
    }

abbrev pub decreases-loop-next : goal.decreases-loop-next
decreases-loop-next l = length l.reader.file.now - l.reader.here.at
