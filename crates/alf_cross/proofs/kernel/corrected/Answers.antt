-- The rounded sum, the clipped change and the sample moved by it fit 16 bits. Assumes nothing.
use Rattle.std.proofs.Common.{◌≡◌, ℕ, ◌-◌, ◌*◌, ◌^◌, ◌≤◌, ◌<◌, ℤ, pos, nat_abs, ◌+ℤ◌, ◌-ℤ◌, FitsSigned, w16, w32, to_z, of_z, arith}
use lib.IntN.{neg_ℤ, +ℤ_idl}
use lib.Pow.{pow_mono}
use Rattle.alf_spec.specs.Arithmetic.{clip3, rounded}
use Rattle.alf_spec.specs.CrossComponent.{corrected}
use Rattle.alf_math.proofs.Magnitude.{abs_add, abs_sub, abs_neg, abs_clip-within, fits_abs, back, words, returned}
use Rattle.alf_cross.proofs.TapSums.{rounded-small}
use Rattle.alf_cross.proofs.kernel.corrected.Goals as goal
use Rattle.alf_cross.proofs.kernel.corrected.Goals.{After-rounded, After-clip16-change}

rounded-fits : (sum : ℤ) → nat_abs sum ≤ 7 * (128 * 4095) → FitsSigned w16 (rounded 7 sum)
rounded-fits sum small = fits_abs (omega (arith, rounded-small sum small))

rounded-is : (c : After-rounded) → to_z w32 (of_z w32 c.rounded.result) ≡ rounded 7 c.args.sum
rounded-is c = returned w32 c.rounded.type_inv (simp (words, c.ranges.sum) at c.rounded.ensures)

-- the change
abbrev clipped : ℕ → ℤ → ℤ
clipped depth sum = clip3 (neg_ℤ (pos (2 ^ (depth - 1)))) (pos (2 ^ (depth - 1) - 1)) (rounded 7 sum)

-- a sample moved by it
moved-fits : (curr depth : ℕ) (sum : ℤ) → curr < 4096 → depth ≤ 12 → nat_abs sum ≤ 7 * (128 * 4095)
    → FitsSigned w16 (pos curr +ℤ clipped depth sum)
moved-fits curr depth sum level few small =
    let high : depth - 1 ≤ 11 = omega arith in
    let half = pow_mono high in
    let change = abs_clip-within (7 * 4096) (neg_ℤ (pos (2 ^ (depth - 1)))) (pos (2 ^ (depth - 1) - 1)) (rounded 7 sum)
    (omega (arith, abs_neg (pos (2 ^ (depth - 1))))) (omega arith) (rounded-small sum small) in
    fits_abs (omega (arith, abs_add (pos curr) (clipped depth sum)))

change-is : (c : After-clip16-change) → to_z w32 (of_z w32 c.rounded.result) ≡ rounded 7 c.args.sum
    → to_z w16 (of_z w16 c.clip16-change.result) ≡ clipped c.args.depth c.args.sum
change-is c rounded-is =
    let half = c.half_levels-half.result in
    let half_is : to_z w16 half ≡ pos half = back w16 _ (omega arith) in
    let top-is : to_z w16 (half - 1) ≡ pos (half - 1) = back w16 _ (omega arith) in
    let low_fits : FitsSigned w16 (pos 0 -ℤ pos half) = fits_abs (omega (arith, abs_sub (pos 0) (pos half))) in
    let e = simp (rounded-is, half_is, top-is, words, low_fits, rounded-fits c.args.sum c.requires.1) at c.clip16-change.ensures in
    returned w16 c.clip16-change.type_inv (simp c.half_levels-half.ensures.0 at (simp +ℤ_idl at e))

pub overflow_cast-rounded : goal.overflow_cast-rounded
overflow_cast-rounded c =
    rw (rounded-is (goal.at.overflow_cast-rounded c).After-rounded) (rounded-fits c.args.sum c.requires.1)

pub overflow_add-curr : goal.overflow_add-curr
overflow_add-curr c =
    let a = c.args in
    let at = goal.at.overflow_add-curr c in
    let curr-is : to_z w16 a.curr ≡ pos a.curr = back w16 _ (omega arith) in
    simp (change-is at.After-clip16-change (rounded-is at.After-rounded), curr-is)
    (moved-fits a.curr a.depth a.sum c.requires.0 c.requires.3 c.requires.1)

pub returns : goal.returns
unfolding corrected
returns c =
    let a = c.args in
    let at = goal.at.returns c in
    let curr-is : to_z w16 a.curr ≡ pos a.curr = back w16 _ (omega arith) in
    simp (
      change-is at.After-clip16-change (rounded-is at.After-rounded),
      curr-is,
      words,
      moved-fits a.curr a.depth a.sum c.requires.0 c.requires.3 c.requires.1,
    ) at c.level16.ensures
