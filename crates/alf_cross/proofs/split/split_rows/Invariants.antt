-- The first j rows are split.
use Rattle.alf_cross.specs.Taps.{Split}
use Rattle.alf_cross.proofs.split.split_rows.Given as goal

abbrev pub invariant-loop-j : goal.invariant-loop-j
invariant-loop-j l = Split l.copy l.split l.pitch 2 l.j
