-- A filter's numbers spread over the columns of a row of samples: a row of 128 for each tap, first the coefficients of 12 taps, then their
-- clips. Assumes nothing.
use Rattle.std.specs.Prelude.{ℕ, ◌+◌, ◌*◌, ◌≤◌, ◌<◌, List, ℤ, pos, length, get_or}
use Rattle.alf_math.specs.Integers.{CoeffRange, ClipRange}

-- the index at which the clips begin
abbrev pub clips_at : ℕ
clips_at = 1536

-- the coefficient of tap j at column x
abbrev pub spread_coeff : List ℤ → ℕ → ℕ → ℤ
spread_coeff taps x j = get_or taps (128 * j + x) (pos 0)

-- the clip of tap j at column x
abbrev pub spread_clip : List ℤ → ℕ → ℕ → ℤ
spread_clip taps x j = get_or taps (clips_at + (128 * j + x)) (pos 0)

-- the spread coefficients and clips are in their ranges
pub record TapNumbers (taps : List ℤ) : Type 0 where
  pub room : 2 * clips_at ≤ length taps
  pub coefficients : (k : ℕ) → k < clips_at → CoeffRange (get_or taps k (pos 0))
  pub clips : (k : ℕ) → k < clips_at → ClipRange (get_or taps (clips_at + k) (pos 0))
