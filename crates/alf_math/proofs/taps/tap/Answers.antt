-- The sum of two clipped changes fits 16 bits, and its product with the coefficient 32.
use Rattle.std.proofs.Common.{◌≡◌, arith}
use lib.IntN.{ℤ, ◌+ℤ◌, ◌*ℤ◌}
use mir.Syntax.{w16, w32}
use mir.Val.{SFits, to_z, of_z}
use mir.Facts.{to_z-of_z}
use Rattle.alf_spec.specs.Arithmetic.{clipped_change, tap}
use Rattle.alf_math.proofs.Magnitude.{abs_pair, abs_tap, fits_abs, words, returned}
use Rattle.alf_math.proofs.taps.tap.Goals as goal

first : (c : goal.After-clipped_change-2) → let a = c.args in
    to_z w16 (of_z w16 c.clipped_change.result) ≡ clipped_change a.curr a.c a.plus
first c = returned w16 c.clipped_change.type_inv (simp (to_z-of_z, c.ranges.c) at c.clipped_change.ensures)

second : (c : goal.After-clipped_change-2) → let a = c.args in
    to_z w16 (of_z w16 c.clipped_change-2.result) ≡ clipped_change a.curr a.c a.minus
second c = returned w16 c.clipped_change-2.type_inv (simp (to_z-of_z, c.ranges.c) at c.clipped_change-2.ensures)

abbrev pair : goal.After-clipped_change-2 → ℤ
pair c = let a = c.args in clipped_change a.curr a.c a.plus +ℤ clipped_change a.curr a.c a.minus

pair_fits : (c : goal.After-clipped_change-2) → SFits w16 (pair c)
pair_fits c = let a = c.args in fits_abs (omega (arith, abs_pair a.curr a.f a.c c.requires.1 c.requires.2.small a.plus a.minus))

tap-fits : (c : goal.After-clipped_change-2) → SFits w32 (c.args.f *ℤ pair c)
unfolding tap
tap-fits c = let a = c.args in fits_abs (omega (arith, abs_tap a.curr a.f a.c c.requires.1 c.requires.2.small a.plus a.minus))

pub overflow_add-result : goal.overflow_add-result
overflow_add-result c = rw (first c, second c) (pair_fits c)

pub overflow_mul-result : goal.overflow_mul-result
overflow_mul-result c = simp (first c, second c, words, c.ranges.f, pair_fits c) (tap-fits c)

pub returns : goal.returns
unfolding tap
returns c = simp (first c, second c, words, c.ranges.f, pair_fits c, tap-fits c)
