-- A signed number that a program makes positive: the test of its sign, and its opposite in a wider type, where it always fits. Assumes
-- nothing.
use mathlib.Core.Path.{◌≡◌}
use mathlib.Core.Bool.{true, false, true≢false}
use Prim.Native.Nat.{suc}
use native.Mathlib.Nat.{zero-add, lt_of_le_of_lt}
use native.Mathlib.Omega.{arith}
use borrow.Author.Tests.{ltb-true}
use lib.Dec.{T, ltb, ltb→lt}
use lib.IntN.{ℤ, pos, negsuc, nat_abs, ◌-ℤ◌}
use lib.Pow.{pow-lt}
use lib.Signed.{lt_z, non_neg}
use mir.Syntax.{Width}
use mir.Val.{hbits, SFits}

-- what a cast to an unsigned type asks of a number that is not below 0
pub not-below : (v : ℤ) → lt_z v (pos 0) ≡ false → T (non_neg v)
not-below (pos n) e = tt
not-below (negsuc n) e = absurd (true≢false e)

-- and of the opposite of one that is
pub opposite_above : (v : ℤ) → lt_z v (pos 0) ≡ true → T (non_neg (pos 0 -ℤ v))
opposite_above (pos n) e = absurd (omega (arith, ltb-true n 0 e))
opposite_above (negsuc n) e = tt

-- the two have one magnitude
pub opposite_magnitude : (v : ℤ) → lt_z v (pos 0) ≡ true → nat_abs (pos 0 -ℤ v) ≡ nat_abs v
opposite_magnitude (pos n) e = absurd (omega (arith, ltb-true n 0 e))
opposite_magnitude (negsuc n) e = zero-add (suc n)

-- in a wider type the smallest number has an opposite too
pub opposite_fits : {narrow wide : Width} (v : ℤ) → T (ltb (hbits narrow) (hbits wide)) → SFits narrow v → lt_z v (pos 0) ≡ true
    → SFits wide (pos 0 -ℤ v)
opposite_fits (pos n) t f e = absurd (omega (arith, ltb-true n 0 e))
opposite_fits {narrow} {wide} (negsuc n) t f e =
    record { sfits = rw zero-add (lt_of_le_of_lt f.sfits (pow-lt (ltb→lt (hbits narrow) (hbits wide) t))) }
