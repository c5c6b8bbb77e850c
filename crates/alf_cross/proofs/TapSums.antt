-- How large a tap is, and what the call for a tap asks and gives where a kernel makes the sum tap by tap. Assumes nothing.
use mathlib.Core.Path.{◌≡◌, ◌∙◌}
use mathlib.Core.Bool.{Bool, true, false, cond}
use mathlib.Core.List.{List, [], ◌∷◌}
use Prim.Native.Nat.{ℕ, zero, suc, ◌+◌, ◌-◌, ◌*◌, ◌^◌, ◌≤◌, ◌<◌}
use native.Mathlib.Nat.{mul-le-mul}
use native.Mathlib.Omega.{arith}
use lib.Dec.{ltb}
use lib.IntN.{ℤ, pos, negsuc, nat_abs, ◌+ℤ◌, ◌-ℤ◌, ◌*ℤ◌}
use lib.ListN.{length, get_or}
use lib.Signed.{mag, shr_z}
use mir.Facts.{to_z-of_z}
use mir.Syntax.{w16, w32}
use mir.Val.{SFits, hbits, to_z, of_z}
use Rattle.alf_spec.specs.Arithmetic.{rounded}
use Rattle.alf_spec.proofs.Lists.{Each}
use Rattle.alf_math.proofs.Magnitude.{abs_add, abs_sub, abs_mul, fits_abs}
use Rattle.alf_math.proofs.TapByTap.{Summed, summed_more}
use Rattle.alf_cross.specs.Taps.{SmallTaps, last, CrossReads, seven}
use Rattle.alf_cross.specs.declared.kernel.CrossStarts.{CrossStarts}

-- ---- how large a tap is, and a sum of taps after the shift

-- two samples differ by at most the largest
pub differ : (a b : ℕ) → a < 4096 → b < 4096 → nat_abs (pos a -ℤ pos b) ≤ 4095
differ a zero h l = omega (arith, abs_sub (pos a) (pos 0))
differ a (suc b) h l = pick (ltb a (suc b))
  where
    pick : (t : Bool) → nat_abs (cond t (negsuc (suc b - suc a)) (pos (a - suc b))) ≤ 4095
    pick true = omega arith
    pick false = omega arith

shifted_small : (z : ℤ) → nat_abs z ≤ 7 * (128 * 4095) + 64 → nat_abs (shr_z z 128) ≤ 7 * 4096
shifted_small (pos a) h = omega arith
shifted_small (negsuc a) h = omega arith

pub rounded-small : (sum : ℤ) → nat_abs sum ≤ 7 * (128 * 4095) → nat_abs (rounded 7 sum) ≤ 7 * 4096
unfolding rounded
rounded-small sum h = shifted_small (sum +ℤ pos 64) (omega (arith, abs_add sum (pos 64)))

-- a tap: its coefficient is as small as an accepted APS has it
pub tap-small : (f : ℤ) (sample middle : ℕ) → nat_abs f ≤ 128 → sample < 4096 → middle < 4096
    → nat_abs (f *ℤ (pos sample -ℤ pos middle)) ≤ 128 * 4095
tap-small f sample middle small h l = rw abs_mul (mul-le-mul small (differ sample middle h l))

-- ---- the coefficients

each-small : (f : List ℤ) → Each (λ c. nat_abs c ≤ 128) f → (j : ℕ) → nat_abs (get_or f j (pos 0)) ≤ 128
each-small [] h j = omega arith
each-small (c ∷ f) h zero = h.0
each-small (c ∷ f) h (suc j) = each-small f h.1 j

pub seven-small : (f : List ℤ) → ((j : ℕ) → nat_abs (get_or f j (pos 0)) ≤ 128) → SmallTaps (seven f)
seven-small f h = record { each = each-small (seven f) (h 0, (h 1, (h 2, (h 3, (h 4, (h 5, (h 6, tt))))))) }

-- ---- what is read of the split copy

-- a tap of sample `at`: its coefficient is small, and its row and its column begin no later than the last
module _ {split : List ℕ} {s : CrossStarts} {at : ℕ} (reads : CrossReads split s at) (f : ℤ) (small : nat_abs f ≤ 128) (row column : ℕ)
    (first : row ≤ s.below2) (within : column ≤ last s) where
  middle_level : get_or split (s.here + at + s.own) 0 < 4096
  middle_level = reads.small (s.here + at + s.own) (omega (arith, reads.here_first))

  sample_level : get_or split (row + at + column) 0 < 4096
  sample_level = reads.small (row + at + column) (omega arith)

  fits : SFits w16 f
  fits = fits_abs (omega arith)

  -- what the call for this tap asks
  pub tap_ready : {tap : ℕ → ℤ} {n : ℕ} {z : ℤ} → Summed tap (128 * 4095) n z → n ≤ 6
      → (nat_abs z ≤ 2 ^ 30) × (get_or split (s.here + at + s.own) 0 < 4096) × (row + at + column < length split)
      × (get_or split (row + at + column) 0 < 4096) × (nat_abs (to_z w16 (of_z w16 f)) ≤ 128)
  tap_ready sum few =
      (omega (arith, sum.small), middle_level, omega (arith, reads.room), sample_level, rw (to_z-of_z fits) small)

  -- the sum after the call for this tap, which returned r
  pub tap_added : {tap : ℕ → ℤ} {n : ℕ} {z r : ℤ} → Summed tap (128 * 4095) n z
      → r ≡ z +ℤ to_z w16 (of_z w16 f) *ℤ (pos (get_or split (row + at + column) 0) -ℤ pos (get_or split (s.here + at + s.own) 0))
      → f *ℤ (pos (get_or split (row + at + column) 0) -ℤ pos (get_or split (s.here + at + s.own) 0)) ≡ tap n
      → mag r < 2 ^ hbits w32 → Summed tap (128 * 4095) (suc n) (to_z w32 (of_z w32 r))
  tap_added sum h e ok =
      summed_more sum (rw (← e) (tap-small f _ _ small sample_level middle_level)) ok (h ∙ rw (to_z-of_z fits, e))
