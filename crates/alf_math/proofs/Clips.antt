-- Clipping as std has it, by a smaller and a larger, is Clip3 where the lower end is not above the upper one; and what a clip to a sample's
-- levels gives, in code of either width, is a level. Assumes nothing.
use Rattle.std.proofs.Common.{◌≡◌, ℕ, ◌-◌, ◌^◌, ◌≤◌, ◌<◌, pos, nat_abs, refl, arith}
use Rattle.std.proofs.lemmas.Int.{ints}
use Rattle.std.specs.Int.{int_min, int_max}
use lib.IntN.{ℤ, neg_ℤ}
use lib.Signed.{◌≤ℤ◌}
use mir.Facts.{to_z-of_z}
use mir.Syntax.{Width}
use mir.Val.{SFits, hbits, to_z, of_z}
use Rattle.alf_spec.specs.Arithmetic.{clip3, clip_sample}
use Rattle.alf_math.specs.Integers.{ClipRange}
use Rattle.alf_math.proofs.Magnitude.{back}

pub clamp-clip3 : (low high v : ℤ) → low ≤ℤ high → int_max low (int_min v high) ≡ clip3 low high v
unfolding clip3
clamp-clip3 low high v h = grind (arith, ints)

pub min_max-clip3 : (low high v : ℤ) → low ≤ℤ high → int_max (int_min v high) low ≡ clip3 low high v
unfolding clip3
min_max-clip3 low high v h = grind (arith, ints)

-- to −c .. c
pub clip-between : {c : ℤ} → ClipRange c → (v : ℤ) → int_max (int_min v c) (neg_ℤ c) ≡ clip3 (neg_ℤ c) c v
clip-between {c} h v = min_max-clip3 (neg_ℤ c) c v (omega (arith, ints, h.level))

-- what a clip of v to a sample's levels gave, z, by what code read: the upper end is unsigned, and v fits the width
pub level_clipped : (w : Width) {z v : ℤ} {top : ℕ} (depth : ℕ) → 4096 ≤ 2 ^ hbits w → SFits w v → SFits w z
    → z ≡ int_max (pos 0) (int_min (to_z w (of_z w v)) (to_z w top)) → (top ≡ 2 ^ depth - 1) × (top < 4096)
    → nat_abs (to_z w (of_z w z)) ≡ clip_sample depth v
unfolding clip_sample
level_clipped w {z} {v} {top} depth wide f g e t =
    let h : to_z w top ≡ pos top = back w top (omega (arith, wide, t)) in
    let k : z ≡ int_max (pos 0) (int_min v (pos top)) = rw (to_z-of_z f, h) at e in
    let l : pos 0 ≤ℤ pos top = omega (arith, ints) in
    rw (to_z-of_z g, k, clamp-clip3 (pos 0) (pos top) v l, t.0) refl
