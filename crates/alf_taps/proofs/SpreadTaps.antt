-- The taps of a sample by numbers that are spread over the columns: what a call of `add_tap` asks and gives where a kernel makes the sum
-- tap by tap, how large the sum can be, and that equal numbers give equal sums. Assumes nothing.
use mathlib.Core.Path.{◌≡◌}
use mathlib.Core.List.{List}
use Prim.Native.Nat.{ℕ, suc, ◌+◌, ◌*◌, ◌^◌, ◌≤◌, ◌<◌}
use native.Mathlib.Omega.{arith}
use lib.IntN.{ℤ, nat_abs, ◌+ℤ◌}
use lib.ListN.{length, get_or}
use lib.Signed.{mag}
use mir.Syntax.{w16, w32}
use mir.Val.{SFits, hbits, to_z, of_z}
use Rattle.alf_spec.specs.Arithmetic.{tap, tap_sum}
use Rattle.alf_spec.proofs.Lists.{sum_sameℤ}
use Rattle.alf_math.specs.Integers.{CoeffRange, ClipRange}
use Rattle.alf_math.proofs.Magnitude.{abs_tap, abs_tap_sum, fits_abs}
use Rattle.alf_math.proofs.TapByTap.{Summed, summed_more}
use Rattle.alf_taps.specs.Spread.{clips_at, spread_coeff, spread_clip, TapNumbers}

-- a coefficient and a clip fit 16 bits
pub coefficient_fits : (z : ℤ) → CoeffRange z → SFits w16 z
coefficient_fits z h = fits_abs (omega (arith, h))

pub clip_fits : {z : ℤ} → ClipRange z → SFits w16 z
clip_fits h = fits_abs (omega (arith, h.small))

-- what a kernel has of the sample `curr` at column x: the taps' numbers are in their ranges, and the first `end` entries of the copy are
-- samples
pub record TapsGiven (copy : List ℕ) (taps : List ℤ) (x curr end : ℕ) : Type 0 where
  pub numbers : TapNumbers taps
  pub column : x < 128
  pub sample : curr < 4096
  pub room : end ≤ length copy
  pub samples : (k : ℕ) → k < end → get_or copy k 0 < 4096

-- tap j of that sample, where `plus` and `minus` hold the two neighbours of each tap
abbrev pub spread_tap : List ℤ → ℕ → ℕ → List ℕ → List ℕ → ℕ → ℤ
spread_tap taps x curr plus minus j = tap curr (spread_coeff taps x j) (spread_clip taps x j) (get_or plus j 0) (get_or minus j 0)

-- z is the sum of its first n taps
abbrev pub SpreadSum : List ℤ → ℕ → ℕ → List ℕ → List ℕ → ℕ → ℤ → Type 0
SpreadSum taps x curr plus minus = Summed (spread_tap taps x curr plus minus) (2 ^ 20)

module _ {copy : List ℕ} {taps : List ℤ} {x curr end : ℕ} (given : TapsGiven copy taps x curr end) (plus minus : List ℕ) where
  -- the sum after call n of `add_tap`, counted from 0, which returned r
  pub tap_added : {n : ℕ} {z r : ℤ} → SpreadSum taps x curr plus minus n z → n < 12 → mag r < 2 ^ hbits w32
      → r ≡ z +ℤ spread_tap taps x curr plus minus n → SpreadSum taps x curr plus minus (suc n) (to_z w32 (of_z w32 r))
  tap_added {n} sum few ok e =
      let in_row : 128 * n + x < clips_at = omega (arith, given.column) in
      summed_more sum (abs_tap curr _ _ (given.numbers.coefficients _ in_row) (given.numbers.clips _ in_row).small _ _) ok e

  -- what the next call asks of its sum, its neighbours, at columns i and j of the rows at p and m, and of its row of coefficients
  pub tap_ready : {n : ℕ} {z : ℤ} (p i m j at : ℕ) → SpreadSum taps x curr plus minus n z
      → (n ≤ 11) × (p + x + i < end) × (m + x + j < end) × (at ≤ 1408)
      → (nat_abs z ≤ 11 * 2 ^ 20) × (curr < 4096) × (p + x + i < length copy) × (m + x + j < length copy)
      × (get_or copy (p + x + i) 0 < 4096) × (get_or copy (m + x + j) 0 < 4096) × (at + x < clips_at) × TapNumbers taps
  tap_ready p i m j at sum h = (
    omega (arith, sum.small),
    given.sample,
    omega (arith, given.room),
    omega (arith, given.room),
    given.samples _ h.1,
    given.samples _ h.2,
    omega (arith, given.column),
    given.numbers,
  )

-- how large a sum of n taps can be
pub spread_sum : {taps : List ℤ} → TapNumbers taps → (x : ℕ) → x < 128 → (n : ℕ) → n ≤ 12 → (curr : ℕ) (plus minus : List ℕ)
    → nat_abs (tap_sum n curr (spread_coeff taps x) (spread_clip taps x) plus minus) ≤ n * 2 ^ 20
spread_sum {taps} numbers x column n few curr plus minus =
    abs_tap_sum n curr (spread_coeff taps x) (spread_clip taps x)
    (λ j h. numbers.coefficients _ (omega arith)) (λ j h. (numbers.clips _ (omega arith)).small) plus minus

-- sums of n taps are equal where the taps' numbers are
pub taps_same : (n curr : ℕ) {f g c d : ℕ → ℤ} (plus minus : List ℕ) → ((j : ℕ) → j < n → f j ≡ g j) → ((j : ℕ) → j < n → c j ≡ d j)
    → tap_sum n curr f c plus minus ≡ tap_sum n curr g d plus minus
unfolding tap_sum
taps_same n curr plus minus coefficients clips =
    sum_sameℤ n _ _ (λ j h t. tap curr (coefficients j h t) (clips j h t) (get_or plus j 0) (get_or minus j 0))
