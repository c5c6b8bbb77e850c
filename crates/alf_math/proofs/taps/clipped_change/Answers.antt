-- Nothing overflows, and the smaller and the larger are Clip3.
use Rattle.std.proofs.Common.{◌≡◌, ◌∙◌, arith, pos}
use Rattle.std.proofs.lemmas.Int.{ints, clamps}
use Rattle.std.specs.Int.{int_min, int_max}
use lib.IntN.{◌-ℤ◌, neg_ℤ}
use mir.Syntax.{w16}
use mir.Val.{to_z, of_z}
use Rattle.alf_spec.specs.Arithmetic.{clipped_change}
use Rattle.alf_math.proofs.Clips.{clip-between}
use Rattle.alf_math.proofs.taps.clipped_change.Goals as goal

pub returns : goal.returns
unfolding clipped_change
returns c =
    let a = c.args in
    let is : to_z w16 (of_z w16 c.max.result) ≡ int_max (int_min (pos a.sample -ℤ pos a.curr) a.c) (neg_ℤ a.c) =
    omega (arith, ints, clamps, c.requires.1.small) in
    is ∙ clip-between c.requires.1 (pos a.sample -ℤ pos a.curr)
