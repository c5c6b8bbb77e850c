-- 1 << BitDepth, where the bit depth is at most 12. Assumes nothing.
use Rattle.std.proofs.Common.{◌≡◌, true, ◌∙◌, ℕ, ◌*◌, ◌%◌, ◌^◌, ◌≤◌, ◌<◌, pos, to_z, arith}
use mir.Syntax.{w16}
use lib.Pow.{pow-lt}
use Rattle.alf_spec.specs.declared.Picture.{Picture}
use Rattle.alf_spec.specs.Faults.{bit_depth_valid}
use Rattle.alf_math.proofs.Grids.{shifted, depth_bounds}
use Rattle.alf_math.proofs.Magnitude.{back}

-- 1 << BitDepth in 16 bits
pub one_shifted : (d : ℕ) → d ≤ 12 → (1 * 2 ^ d) % (2 ^ 16) ≡ 2 ^ d
one_shifted d h = shifted d 16 (omega arith)

-- it is not negative as a signed number
pub one_shifted_small : (d : ℕ) → d ≤ 12 → (1 * 2 ^ d) % (2 ^ 16) < 2 ^ 15
one_shifted_small d h = rw (one_shifted d h) (pow-lt {j = 15} (omega arith))

-- and stays the same number
pub clip_limit : (d : ℕ) → d ≤ 12 → to_z w16 ((1 * 2 ^ d) % (2 ^ 16)) ≡ pos (2 ^ d)
clip_limit d h = back w16 _ (one_shifted_small d h) ∙ rw (one_shifted d h)

-- an accepted bit depth
pub depth_high : (p : Picture) → bit_depth_valid p ≡ true → p.bit_depth ≤ 12
depth_high p valid = (depth_bounds p valid).1

pub ruleset depths = (one_shifted, depth_high)
