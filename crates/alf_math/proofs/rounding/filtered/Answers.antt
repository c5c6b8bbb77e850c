-- The moved sample fits.
use Rattle.std.proofs.Common.{◌≡◌}
use mir.Syntax.{w32}
use mir.Val.{to_z, of_z}
use Rattle.alf_spec.specs.Arithmetic.{rounded, filtered}
use Rattle.alf_math.proofs.Magnitude.{moved_fits, returned, words}
use Rattle.alf_math.proofs.rounding.filtered.Goals as goal

pub overflow_add-curr : goal.overflow_add-curr
overflow_add-curr c =
    let a = c.args in
    let change : to_z w32 (of_z w32 c.rounded.result) ≡ rounded a.shift a.sum =
    returned w32 c.rounded.type_inv (simp (words, c.ranges.sum) at c.rounded.ensures) in
    simp (change, words, c.ranges.curr) (moved_fits a.curr a.sum a.shift c.requires.0 c.requires.1)

pub returns : goal.returns
unfolding filtered
returns c =
    let a = c.args in
    let change : to_z w32 (of_z w32 c.rounded.result) ≡ rounded a.shift a.sum =
    returned w32 c.rounded.type_inv (simp (words, c.ranges.sum) at c.rounded.ensures) in
    simp (change, words, c.ranges.curr, moved_fits a.curr a.sum a.shift c.requires.0 c.requires.1) at c.clip_sample.ensures
