-- How large integers can be, so that code can be shown not to overflow: bounds of sums, products, clips and shifts by magnitude, and the
-- reading of a signed value from its bits. Assumes nothing.
use mathlib.Core.Path.{◌≡◌, refl, ◌∙◌}
use mathlib.Core.Bool.{Bool, true, false, cond, true≢false}
use mathlib.Core.List.{List}
use Prim.Native.Nat.{ℕ, zero, suc, ◌+◌, ◌-◌, ◌*◌, ◌^◌, ◌≤◌, ◌<◌}
use native.Mathlib.Nat.{le_refl, lt_of_le_of_lt, mul-le-mul, div-le_self}
use native.Mathlib.Omega.{arith}
use borrow.Author.Tests.{ltb-false}
use lib.Dec.{ltb}
use lib.ListN.{get_or}
use lib.IntN.{ℤ, pos, negsuc, neg_ℤ, nat_abs, ◌+ℤ◌, ◌-ℤ◌, ◌*ℤ◌}
use lib.Signed.{mag, lt_z, shr_z}
use mir.Syntax.{Width, w16, w32}
use mir.Val.{Fits, SFits, hbits, to_z, of_z}
use mir.Facts.{to_z-of_z, sfits_widen}
use Rattle.alf_spec.specs.Lists.{sum_below_ℤ}
use Rattle.alf_spec.specs.Arithmetic.{clip3, rounded, clipped_change, tap, tap_sum}

-- ---- magnitudes

abs_difference : (a b : ℕ) (t : Bool) → nat_abs (cond t (negsuc (suc b - suc a)) (pos (a - suc b))) ≤ a + suc b
abs_difference a b true = omega arith
abs_difference a b false = omega arith

pub abs_add : (a b : ℤ) → nat_abs (a +ℤ b) ≤ nat_abs a + nat_abs b
abs_add (pos a) (pos b) = le_refl (a + b)
abs_add (pos a) (negsuc b) = abs_difference a b (ltb a (suc b))
abs_add (negsuc a) (pos b) = omega (arith, abs_difference b a (ltb b (suc a)))
abs_add (negsuc a) (negsuc b) = omega arith

pub abs_neg : (a : ℤ) → nat_abs (neg_ℤ a) ≡ nat_abs a
abs_neg (pos zero) = refl
abs_neg (pos (suc n)) = refl
abs_neg (negsuc n) = refl

pub abs_sub : (a b : ℤ) → nat_abs (a -ℤ b) ≤ nat_abs a + nat_abs b
abs_sub a b = omega (arith, abs_add a (neg_ℤ b), abs_neg b)

pub abs_mul : (a b : ℤ) → nat_abs (a *ℤ b) ≡ nat_abs a * nat_abs b
abs_mul (pos a) (pos b) = refl
abs_mul (pos a) (negsuc b) = abs_neg (pos (a * suc b))
abs_mul (negsuc a) (pos b) = abs_neg (pos (suc a * b))
abs_mul (negsuc a) (negsuc b) = refl

pub abs_shr : (z : ℤ) (m : ℕ) → nat_abs (shr_z z m) ≤ nat_abs z
abs_shr (pos a) m = div-le_self a m
abs_shr (negsuc a) m = omega (arith, div-le_self a m)

-- ---- what fits a signed type, and reads back from its bits

mag_abs : (z : ℤ) → mag z ≤ nat_abs z
mag_abs (pos n) = le_refl n
mag_abs (negsuc n) = omega arith

pub fits_abs : {w : Width} {z : ℤ} → nat_abs z < 2 ^ hbits w → SFits w z
fits_abs {w} {z} h = record { sfits = lt_of_le_of_lt (mag_abs z) h }

-- a number cast from an unsigned type
pub back : (w : Width) (n : ℕ) → n < 2 ^ hbits w → to_z w n ≡ pos n
back w n h = to_z-of_z {w = w} {z = pos n} (record { sfits = h })

pub back_u16 : (n : ℕ) → Fits w16 n → to_z w32 n ≡ pos n
back_u16 n f = back w32 n (omega (arith, f.fits))

-- a number cast from 16 bits to 32
pub widened : {z : ℤ} → SFits w16 z → SFits w32 z
widened f = sfits_widen tt f

pub back_i16 : {z : ℤ} → SFits w16 z → to_z w32 (of_z w32 z) ≡ z
back_i16 f = to_z-of_z (widened f)

-- for `simp`, beside what says that each value fits
pub ruleset words = (to_z-of_z, back_i16, back_u16)

-- what a call returned, by what it ensures
pub returned : (w : Width) {z v : ℤ} → mag z < 2 ^ hbits w → z ≡ v → to_z w (of_z w z) ≡ v
returned w h e = to_z-of_z (record { sfits = h }) ∙ e

-- ---- clips

-- what a clip gives is an end, or the number itself where it lies between
clip_cases : (P : ℤ → Type 0) (lo hi v : ℤ) → P lo → P hi → (lt_z v lo ≡ false → lt_z hi v ≡ false → P v) → P (clip3 lo hi v)
unfolding clip3
clip_cases P lo hi v low high between = pick (lt_z v lo) (lt_z hi v) refl refl
  where
    pick : (s t : Bool) → lt_z v lo ≡ s → lt_z hi v ≡ t → P (cond s lo (cond t hi v))
    pick true t p q = low
    pick false true p q = high
    pick false false p q = between p q

between_signs : (c v : ℤ) → lt_z v (neg_ℤ c) ≡ false → lt_z c v ≡ false → nat_abs v ≤ nat_abs c
between_signs (pos n) (pos m) p q = ltb-false n m q
between_signs (pos zero) (negsuc m) p q = absurd (true≢false p)
between_signs (pos (suc n)) (negsuc m) p q = omega (arith, ltb-false n m p)
between_signs (negsuc n) (pos m) p q = absurd (true≢false q)
between_signs (negsuc n) (negsuc m) p q = absurd (true≢false p)

pub abs_clip : (c v : ℤ) → nat_abs (clip3 (neg_ℤ c) c v) ≤ nat_abs c
abs_clip c v = clip_cases (λ z. nat_abs z ≤ nat_abs c) (neg_ℤ c) c v (omega (arith, abs_neg c)) (le_refl (nat_abs c)) (between_signs c v)

-- between any two ends
pub abs_clip-within : (b : ℕ) (lo hi v : ℤ) → nat_abs lo ≤ b → nat_abs hi ≤ b → nat_abs v ≤ b → nat_abs (clip3 lo hi v) ≤ b
abs_clip-within b lo hi v low high inside = clip_cases (λ z. nat_abs z ≤ b) lo hi v low high (λ p q. inside)

-- ---- rounding

-- a sample, moved by a rounded sum of taps
pub moved_fits : (curr : ℕ) (sum : ℤ) (shift : ℕ) → curr < 4096 → nat_abs sum ≤ 2 ^ 30 → SFits w32 (pos curr +ℤ rounded shift sum)
unfolding rounded
moved_fits curr sum shift small few = fits_abs (omega (
  arith,
  abs_add (pos curr) (shr_z (sum +ℤ pos 64) (2 ^ shift)),
  abs_shr (sum +ℤ pos 64) (2 ^ shift),
  abs_add sum (pos 64),
))

-- ---- taps

module _ (curr : ℕ) (f c : ℤ) (hf : nat_abs f ≤ 128) (hc : nat_abs c ≤ 4096) where
  pub abs_change : (u : ℕ) → nat_abs (clipped_change curr c u) ≤ 4096
  unfolding clipped_change
  abs_change u = omega (arith, abs_clip c (pos u -ℤ pos curr))

  pub abs_pair : (u v : ℕ) → nat_abs (clipped_change curr c u +ℤ clipped_change curr c v) ≤ 8192
  abs_pair u v = omega (arith, abs_add (clipped_change curr c u) (clipped_change curr c v), abs_change u, abs_change v)

  pub abs_tap : (u v : ℕ) → nat_abs (tap curr f c u v) ≤ 2 ^ 20
  unfolding tap
  abs_tap u v = rw abs_mul (mul-le-mul hf (abs_pair u v))

-- a sum of integers, each at most b
pub abs_sum : (f : ℕ → ℤ) (b n : ℕ) → ((j : ℕ) → j < n → nat_abs (f j) ≤ b) → nat_abs (sum_below_ℤ n f) ≤ n * b
unfolding sum_below_ℤ
abs_sum f b zero each = omega arith
abs_sum f b (suc n) each = omega (arith, abs_add (sum_below_ℤ n f) (f n), abs_sum f b n (λ j h. each j (omega arith)), each n (omega arith))

-- all taps of a sample: with the 12 of luma, less than 2 ^ 24
pub abs_tap_sum : (n curr : ℕ) (f c : ℕ → ℤ) → ((j : ℕ) → j < n → nat_abs (f j) ≤ 128) → ((j : ℕ) → j < n → nat_abs (c j) ≤ 4096)
    → (plus minus : List ℕ) → nat_abs (tap_sum n curr f c plus minus) ≤ n * 2 ^ 20
unfolding tap_sum
abs_tap_sum n curr f c hf hc plus minus =
    abs_sum (λ j. tap curr (f j) (c j) (get_or plus j 0) (get_or minus j 0)) (2 ^ 20) n
    (λ j h. abs_tap curr (f j) (c j) (hf j h) (hc j h) (get_or plus j 0) (get_or minus j 0))
