use Rattle.std.proofs.Common.{◌≡◌, ◌*◌, ◌≤◌}
use Rattle.alf_classify.specs.Windows.{column_sum}
use Rattle.alf_classify.proofs.sums.column_sum.Given as goal

-- u pairs are summed
abbrev pub invariant-loop-u : goal.invariant-loop-u
invariant-loop-u g l = record { is : l.sum ≡ column_sum l.d l.pitch l.u l.k; small : l.sum ≤ 16380 * l.u }
