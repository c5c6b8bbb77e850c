-- A filtered sample from the copy of a piece, as the kernel has it: `proofs/PieceSamples` shows it to be that of `alf_spec`. Assumes
-- nothing.
use Rattle.std.specs.Prelude.{List, [], ◌∷◌, ℕ, ◌+◌, ◌-◌, ◌≤◌, ◌<◌, ℤ, length, get_or}
use Rattle.alf_spec.specs.Arithmetic.{tap_sum, filtered}
use Rattle.alf_taps.specs.Spread.{spread_coeff, spread_clip}
use Rattle.alf_luma.specs.declared.kernel.Starts.{Starts}

-- the rows begin 3 columns before the piece, so the sample at column x stands at column x + 3 of its row
module _ (copy : List ℕ) (s : Starts) (x : ℕ) where
  -- the sample itself
  abbrev pub current : ℕ
  current = get_or copy (s.here + x + 3) 0

  -- (1467): the first neighbour of each tap, as in `luma_plus`
  abbrev pub plus_samples : List ℕ
  plus_samples =
      get_or copy (s.below3 + x + 3) 0
      ∷ get_or copy (s.below2 + x + 4) 0 ∷ get_or copy (s.below2 + x + 3) 0 ∷ get_or copy (s.below2 + x + 2) 0
      ∷ get_or copy (s.below1 + x + 5) 0 ∷ get_or copy (s.below1 + x + 4) 0 ∷ get_or copy (s.below1 + x + 3) 0
      ∷ get_or copy (s.below1 + x + 2) 0
      ∷ get_or copy (s.below1 + x + 1) 0
      ∷ get_or copy (s.here + x + 6) 0 ∷ get_or copy (s.here + x + 5) 0 ∷ get_or copy (s.here + x + 4) 0
      ∷ []

  -- (1467): the second neighbour of each tap, as in `luma_minus`
  abbrev pub minus_samples : List ℕ
  minus_samples =
      get_or copy (s.above3 + x + 3) 0
      ∷ get_or copy (s.above2 + x + 2) 0 ∷ get_or copy (s.above2 + x + 3) 0 ∷ get_or copy (s.above2 + x + 4) 0
      ∷ get_or copy (s.above1 + x + 1) 0 ∷ get_or copy (s.above1 + x + 2) 0 ∷ get_or copy (s.above1 + x + 3) 0
      ∷ get_or copy (s.above1 + x + 4) 0
      ∷ get_or copy (s.above1 + x + 5) 0
      ∷ get_or copy (s.here + x + 0) 0 ∷ get_or copy (s.here + x + 1) 0 ∷ get_or copy (s.here + x + 2) 0
      ∷ []

-- (1466) to (1469), with the filter's numbers spread over the columns
unfoldable pub filtered_at : ℕ → ℕ → List ℕ → List ℤ → Starts → ℕ → ℕ
filtered_at depth shift copy taps s x =
    filtered depth shift (current copy s x)
    (tap_sum 12 (current copy s x) (spread_coeff taps x) (spread_clip taps x) (plus_samples copy s x) (minus_samples copy s x))

-- the filtered sample at index k of the plane, where column 0 stands at index `from`
abbrev pub row_from : ℕ → ℕ → List ℕ → List ℤ → Starts → ℕ → ℕ → ℕ
row_from depth shift copy taps s from k = filtered_at depth shift copy taps s (k - from)

-- the rows lie one below the other, and n columns of them, with three more on either side, hold samples
pub record RowReads (copy : List ℕ) (s : Starts) (n : ℕ) : Type 0 where
  pub third : s.above3 ≤ s.above2
  pub second : s.above2 ≤ s.above1
  pub first : s.above1 ≤ s.here
  pub below : s.here ≤ s.below1
  pub below2 : s.below1 ≤ s.below2
  pub below3 : s.below2 ≤ s.below3
  pub room : s.below3 + n + 6 ≤ length copy
  pub samples : (k : ℕ) → k < s.below3 + n + 6 → get_or copy k 0 < 4096
