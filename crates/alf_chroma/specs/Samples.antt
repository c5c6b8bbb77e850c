-- A filtered chroma sample over the copy of a piece, with a filter's numbers spread over its columns. `proofs/PieceSamples` shows it to be
-- `chroma_sample` of `alf_spec`. Assumes nothing.
use Rattle.std.specs.Prelude.{List, [], ◌∷◌, ℕ, ◌+◌, ◌-◌, ◌*◌, ◌≤◌, ◌<◌, ℤ, length, get_or}
use Rattle.alf_spec.specs.declared.ChromaRows.{ChromaRows}
use Rattle.alf_spec.specs.Arithmetic.{tap_sum, filtered}
use Rattle.alf_taps.specs.Spread.{spread_coeff, spread_clip}
use Rattle.alf_chroma.specs.declared.kernel.ChromaStarts.{ChromaStarts}

-- the rows begin 3 columns before the piece, so the sample at column x stands at column x + 3 of its row
module _ (copy : List ℕ) (s : ChromaStarts) (x : ℕ) where
  -- (1508): the first of each pair, as in `chroma_plus`
  unfoldable pub copy_plus : List ℕ
  copy_plus =
      get_or copy (s.below2 + x + 3) 0
      ∷ get_or copy (s.below1 + x + 4) 0 ∷ get_or copy (s.below1 + x + 3) 0 ∷ get_or copy (s.below1 + x + 2) 0
      ∷ get_or copy (s.here + x + 5) 0 ∷ get_or copy (s.here + x + 4) 0
      ∷ []

  -- (1508): the second of each pair, as in `chroma_minus`
  unfoldable pub copy_minus : List ℕ
  copy_minus =
      get_or copy (s.above2 + x + 3) 0
      ∷ get_or copy (s.above1 + x + 2) 0 ∷ get_or copy (s.above1 + x + 3) 0 ∷ get_or copy (s.above1 + x + 4) 0
      ∷ get_or copy (s.here + x + 1) 0 ∷ get_or copy (s.here + x + 2) 0
      ∷ []

-- (1508) to (1510): the filtered sample at column x
unfoldable pub chroma_copy_sample : List ℕ → ChromaStarts → List ℤ → ℕ → ℕ → ℕ → ℕ
chroma_copy_sample copy s taps shift depth x =
    filtered depth shift (get_or copy (s.here + x + 3) 0)
    (tap_sum 6 (get_or copy (s.here + x + 3) 0) (spread_coeff taps x) (spread_clip taps x) (copy_plus copy s x) (copy_minus copy s x))

-- the filtered sample at index k of the plane, where column 0 stands at index `from`
abbrev pub chroma_copy_sample_from : List ℕ → ChromaStarts → List ℤ → ℕ → ℕ → ℕ → ℕ → ℕ
chroma_copy_sample_from copy s taps shift depth from k = chroma_copy_sample copy s taps shift depth (k - from)

-- the rows of the copy that the taps of the piece's row t read: a row has `pitch` samples, and the copy begins 3 rows before the piece
abbrev pub chroma_starts_of : ℕ → ℕ → ChromaRows → ChromaStarts
chroma_starts_of pitch t r = record {
  above2 = (t + 3 - r.y2) * pitch;
  above1 = (t + 3 - r.y1) * pitch;
  here = (t + 3) * pitch;
  below1 = (t + 3 + r.y1) * pitch;
  below2 = (t + 3 + r.y2) * pitch;
}

-- the filtered sample at column x and row t of a piece
unfoldable pub piece_sample : List ℕ → ℕ → ChromaRows → List ℤ → ℕ → ℕ → ℕ → ℕ
piece_sample copy pitch r taps depth t x = chroma_copy_sample copy (chroma_starts_of pitch t r) taps r.shift depth x

-- the rows lie one below the other, and n columns of them, with three more on either side, hold samples
pub record ChromaReads (copy : List ℕ) (s : ChromaStarts) (n : ℕ) : Type 0 where
  pub rise : (s.above2 ≤ s.above1) × (s.above1 ≤ s.here) × (s.here ≤ s.below1) × (s.below1 ≤ s.below2)
  pub room : s.below2 + n + 6 ≤ length copy
  pub samples : (k : ℕ) → k < s.below2 + n + 6 → get_or copy k 0 < 4096
