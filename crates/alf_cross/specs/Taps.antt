-- The copy of a piece with its columns split, and the taps of a sample in it, by the rows and columns that they read. `proofs/PieceSamples`
-- shows them to be those of `alf_spec`. Assumes nothing.
use Rattle.std.specs.Prelude.{◌≡◌, cond, List, [], ◌∷◌, ℕ, ◌+◌, ◌-◌, ◌*◌, ◌/◌, ◌%◌, ◌≤◌, ◌<◌, max, eqb, ℤ, pos, nat_abs, length, get_or}
use Rattle.alf_spec.specs.declared.CrossRows.{CrossRows}
use Rattle.alf_spec.specs.CrossComponent.{cross_sum, corrected}
use Rattle.alf_cross.specs.declared.kernel.CrossStarts.{CrossStarts}

-- ---- the split copy

-- where column c of the copy stands in its row of the split copy: where there are 2 columns for each chroma sample, the even ones stand
-- first, then the odd ones, so that what a tap of neighbouring samples reads stands side by side
unfoldable pub split_index : ℕ → ℕ → ℕ → ℕ
split_index pitch step c = cond (eqb step 2) (c % 2 * (pitch / 2) + c / 2) c

-- the first n columns of the row that begins at `at` stand where the split copy has them
pub record SplitRow (copy split : List ℕ) (pitch step at n : ℕ) : Type 0 where
  pub same : (c : ℕ) → c < n → get_or split (at + split_index pitch step c) 0 ≡ get_or copy (at + c) 0

-- the columns of each of the first `rows` rows stand where the split copy has them
pub record Split (copy split : List ℕ) (pitch step rows : ℕ) : Type 0 where
  pub row : (j : ℕ) → j < rows → SplitRow copy split pitch step (j * pitch) pitch

-- ---- taps

-- the coefficients are as small as those of an accepted APS
pub record SmallTaps (f : List ℤ) : Type 0 where
  pub each : (j : ℕ) → nat_abs (get_or f j (pos 0)) ≤ 128

-- of the columns left of the samples, their own and right of them, where the last begins
abbrev pub last : CrossStarts → ℕ
last s = max s.left (max s.own s.right)

-- no row begins after the last, and what stands up to the last column of sample n of that row are samples
pub record CrossReads (split : List ℕ) (s : CrossStarts) (n : ℕ) : Type 0 where
  pub above_first : s.above1 ≤ s.below2
  pub here_first : s.here ≤ s.below2
  pub below_first : s.below1 ≤ s.below2
  pub room : s.below2 + (n + last s) < length split
  pub small : (k : ℕ) → k ≤ s.below2 + (n + last s) → get_or split k 0 < 4096

module _ (split : List ℕ) (s : CrossStarts) where
  -- what the taps 0 to 6 of sample `at` of its row read, in the order of `cross_taps`
  unfoldable pub split_taps : ℕ → List ℕ
  split_taps at =
      get_or split (s.above1 + at + s.own) 0
      ∷ get_or split (s.here + at + s.left) 0 ∷ get_or split (s.here + at + s.right) 0
      ∷ get_or split (s.below1 + at + s.left) 0 ∷ get_or split (s.below1 + at + s.own) 0 ∷ get_or split (s.below1 + at + s.right) 0
      ∷ get_or split (s.below2 + at + s.own) 0
      ∷ []

  -- (1533), with the coefficients f
  unfoldable pub split_sum : List ℤ → ℕ → ℤ
  split_sum f at = cross_sum (get_or split (s.here + at + s.own) 0) (λ j. get_or f j (pos 0)) (split_taps at)

  -- the corrected sample at index k of a chroma plane; the row's samples begin at index `from`
  unfoldable pub row_sample : List ℤ → ℕ → List ℕ → ℕ → ℕ → ℕ
  row_sample f depth chroma from k = corrected depth (get_or chroma k 0) (split_sum f (k - from))

-- the first seven coefficients
abbrev pub seven : List ℤ → List ℤ
seven f = get_or f 0 (pos 0) ∷ get_or f 1 (pos 0) ∷ get_or f 2 (pos 0) ∷ get_or f 3 (pos 0) ∷ get_or f 4 (pos 0) ∷ get_or f 5 (pos 0)
    ∷ get_or f 6 (pos 0) ∷ []

-- what the taps of samples read whose luma row is row j of the copy, of which a row has `pitch` samples; r says which other rows they read,
-- and the margin has 3 columns, so the first sample's own is column 3
abbrev pub cross_starts_of : ℕ → ℕ → CrossRows → ℕ → CrossStarts
cross_starts_of pitch j r step = record {
  above1 = (j - r.y1) * pitch;
  here = j * pitch;
  below1 = (j + r.y1) * pitch;
  below2 = (j + r.y2) * pitch;
  left = split_index pitch step 2;
  own = split_index pitch step 3;
  right = split_index pitch step 4;
}
