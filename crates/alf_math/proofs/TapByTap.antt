-- A sum that a kernel makes tap by tap, by a call for each tap that takes the sum so far and returns it with one tap more: after n calls it
-- is the sum of the first n taps, and small. Luma, chroma and cross-component kernels use it so:
--   tap : tie.Start → ℕ → ℤ                       tap j of the sample, by what the kernel is given, as the equation has it
--   sum-1 c = summed-more summed-none ..          after the first call, c : tie.After-CALL
--   sum-2 c = summed-more (sum-1 c.before) ..  after the second, and so on; each gives the next call the bound that it asks (`small`)
--   returns c = sum-N c .is                       under `unfolding` of the equation's sum
-- Assumes nothing.
use mathlib.Core.Path.{◌≡◌, refl, ◌∙◌}
use Prim.Native.Nat.{ℕ, suc, ◌*◌, ◌^◌, ◌≤◌, ◌<◌}
use native.Mathlib.Omega.{arith}
use lib.IntN.{ℤ, pos, nat_abs, ◌+ℤ◌}
use lib.Signed.{mag}
use mir.Syntax.{w32}
use mir.Val.{hbits, to_z, of_z}
use Rattle.alf_spec.specs.Lists.{sum_below_ℤ}
use Rattle.alf_math.proofs.Magnitude.{abs_add, returned}

-- z is the sum of the first n taps, each of which is at most b
pub record Summed (tap : ℕ → ℤ) (b n : ℕ) (z : ℤ) : Type 0 where
  pub is : z ≡ sum_below_ℤ n tap
  pub small : nat_abs z ≤ n * b

-- before the first call
pub summed_none : {tap : ℕ → ℤ} {b : ℕ} → Summed tap b 0 (pos 0)
unfolding sum_below_ℤ
summed_none = record { is = refl; small = omega arith }

-- one call more: it was given the sum z of n taps, and r, which it returned, is that sum and tap n. What the caller holds are the bits of
-- r.
pub summed_more : {tap : ℕ → ℤ} {b n : ℕ} {z r : ℤ} → Summed tap b n z → nat_abs (tap n) ≤ b → mag r < 2 ^ hbits w32 → r ≡ z +ℤ tap n
    → Summed tap b (suc n) (to_z w32 (of_z w32 r))
unfolding sum_below_ℤ
summed_more {tap} {b} {n} {z} {r} s tap_small ok e = rw (returned w32 {z = r} ok refl) (record {
  is = e ∙ rw s.is;
  small = rw e (omega (arith, abs_add z (tap n), s.small));
})
