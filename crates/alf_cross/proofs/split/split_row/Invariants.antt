-- The first i columns of each half stand, and what lies before the row stays.
use Rattle.std.proofs.Common.{◌≡◌, ℕ, ◌*◌, ◌<◌, get_or}
use Rattle.alf_cross.specs.Taps.{SplitRow}
use Rattle.alf_cross.proofs.split.split_row.Given as goal

abbrev pub invariant-loop-i : goal.invariant-loop-i
invariant-loop-i l = record {
  row : SplitRow l.copy l.split l.pitch 2 l.at (2 * l.i);
  kept : (k : ℕ) → k < l.at → get_or l.split k 0 ≡ get_or l.initial.split k 0;
}
