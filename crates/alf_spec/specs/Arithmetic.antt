-- Clip3, Abs and the rounding shift, and the taps that luma and chroma share. Assumes nothing.
use Rattle.std.specs.Prelude.{cond, List, ℕ, ◌+◌, ◌-◌, ◌^◌, ℤ, pos, neg_ℤ, nat_abs, ◌+ℤ◌, ◌-ℤ◌, ◌*ℤ◌, get_or}
use Rattle.std.specs.Int.Signed.{lt_z, shr_z}
use Rattle.alf_spec.specs.Lists.{sum_below_ℤ}

-- Clip3( lo, hi, v )
unfoldable pub clip3 : ℤ → ℤ → ℤ → ℤ
clip3 lo hi v = cond (lt_z v lo) lo (cond (lt_z hi v) hi v)

-- Abs( m − n )
unfoldable pub distance : ℕ → ℕ → ℕ
distance m n = (m - n) + (n - m)

-- ( sum + 64 ) >> shift, where >> rounds toward minus infinity; the rounding term is 64 under either shift
unfoldable pub rounded : ℕ → ℤ → ℤ
rounded shift sum = shr_z (sum +ℤ pos 64) (2 ^ shift)

-- Clip3( 0, ( 1 << BitDepth ) − 1, v ), which is not negative: a sample
unfoldable pub clip_sample : ℕ → ℤ → ℕ
clip_sample depth v = nat_abs (clip3 (pos 0) (pos (2 ^ depth - 1)) v)

-- how far a sample is from the current one, clipped to −c .. c
unfoldable pub clipped_change : ℕ → ℤ → ℕ → ℤ
clipped_change curr c sample = clip3 (neg_ℤ c) c (pos sample -ℤ pos curr)

-- a tap of (1467) or (1508): coefficient f and clip c at two neighbours that lie opposite each other
unfoldable pub tap : ℕ → ℤ → ℤ → ℕ → ℕ → ℤ
tap curr f c plus minus = f *ℤ (clipped_change curr c plus +ℤ clipped_change curr c minus)

-- (1467), (1508): n taps
unfoldable pub tap_sum : ℕ → ℕ → (ℕ → ℤ) → (ℕ → ℤ) → List ℕ → List ℕ → ℤ
tap_sum n curr f c plus minus = sum_below_ℤ n (λ j. tap curr (f j) (c j) (get_or plus j 0) (get_or minus j 0))

-- (1468), (1469), and (1509), (1510): the filtered sample
unfoldable pub filtered : ℕ → ℕ → ℕ → ℤ → ℕ
filtered depth shift curr sum = clip_sample depth (pos curr +ℤ rounded shift sum)
