-- A difference of samples fits 16 bits, and its product with a coefficient is small. Assumes nothing.
use Rattle.std.proofs.Common.{◌≡◌, ◌+◌, get_or, ℤ, pos, ◌+ℤ◌, ◌-ℤ◌, ◌*ℤ◌, FitsSigned, w16, w32, to_z, arith}
use Rattle.alf_math.proofs.Magnitude.{abs_add, fits_abs, back, words}
use Rattle.alf_cross.proofs.TapSums.{differ, tap-small}
use Rattle.alf_cross.proofs.kernel.cross_tap.Goals as goal
use Rattle.alf_cross.proofs.kernel.cross_tap.Goals.{Start}

-- the difference
abbrev change : Start → ℤ
change c = let a = c.args in pos (get_or a.split.now (a.row + a.at + a.column) 0) -ℤ pos a.middle

sample-is : (c : Start) → let a = c.args in
    to_z w16 (get_or a.split.now (a.row + a.at + a.column) 0) ≡ pos (get_or a.split.now (a.row + a.at + a.column) 0)
sample-is c = back w16 _ (omega arith)

middle-is : (c : Start) → to_z w16 c.args.middle ≡ pos c.args.middle
middle-is c = back w16 _ (omega arith)

change-fits : (c : Start) → FitsSigned w16 (change c)
change-fits c = fits_abs (omega (arith, differ _ _ c.requires.3 c.requires.1))

-- the tap
abbrev added : Start → ℤ
added c = c.args.f *ℤ change c

added-fits : (c : Start) → FitsSigned w32 (added c)
added-fits c = fits_abs (omega (arith, tap-small c.args.f _ _ c.requires.4 c.requires.3 c.requires.1))

total_fits : (c : Start) → FitsSigned w32 (c.args.sum +ℤ added c)
total_fits c =
    fits_abs (omega (arith, abs_add c.args.sum (added c), tap-small c.args.f _ _ c.requires.4 c.requires.3 c.requires.1))

pub overflow_add-result-3 : goal.overflow_add-result-3
overflow_add-result-3 c =
    let s = (goal.at.overflow_add-result-3 c).Start in
    simp (sample-is s, middle-is s, words, change-fits s, c.ranges.f, c.ranges.sum, added-fits s) (total_fits s)

pub returns : goal.returns
returns c =
    let s = (goal.at.returns c).Start in
    simp (sample-is s, middle-is s, words, change-fits s, c.ranges.f, c.ranges.sum, added-fits s, total_fits s)
