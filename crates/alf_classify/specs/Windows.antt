-- The class window of a block in the copy of a piece, and its sums by pairs of rows. `proofs/WindowSums` shows them to be those of
-- `alf_spec`. Assumes nothing.
use Rattle.std.specs.Prelude.{◌≡◌, List, ℕ, ◌+◌, ◌-◌, ◌*◌, ◌/◌, ◌%◌, ◌≤◌, ◌<◌, get_or}
use Rattle.alf_spec.specs.declared.WindowRows.{WindowRows}
use Rattle.alf_spec.specs.declared.Sums.{Sums}
use Rattle.alf_spec.specs.Lists.{sum_below, tabulate}
use Rattle.alf_spec.specs.Arithmetic.{distance}
use Rattle.alf_spec.specs.Classes.{class_of_sums}
use Rattle.alf_spec.specs.Process.{class_number}
use Rattle.alf_pieces.specs.Copies.{area}
use Rattle.alf_classify.specs.declared.blocks.ColumnSums.{ColumnSums}

-- the window of the block whose first sample is at column s and row t of a piece, in the piece's copy, of which a row has `pitch` samples:
-- entry 10 j + i stands at the offsets i − 3 and j − 3, as in `class_window`
unfoldable pub copy_window : List ℕ → ℕ → ℕ → ℕ → List ℕ
copy_window copy pitch s t = tabulate 100 (λ k. get_or copy ((t + k / 10) * pitch + (s + k % 10)) 0)

-- ---- second differences

-- (1472) to (1475): the second difference of sample k of the copy and the two that lie `step` before and after it
unfoldable pub difference_at : List ℕ → ℕ → ℕ → ℕ
difference_at copy step k = distance (2 * get_or copy k 0) (get_or copy (k - step) 0 + get_or copy (k + step) 0)

-- the second difference at index k of a list in which that of sample 0 would stand at index `at`
abbrev pub difference_from : List ℕ → ℕ → ℕ → ℕ → ℕ
difference_from copy step at k = difference_at copy step (k - at)

-- the differences in each direction, `area` places apart, of the copy's first n samples, all but the outermost ones
pub record Differences (copy : List ℕ) (pitch n : ℕ) (d : List ℕ) : Type 0 where
  pub v : (k : ℕ) → pitch + 1 ≤ k → k + (pitch + 1) < n → get_or d k 0 ≡ difference_at copy pitch k
  pub h : (k : ℕ) → pitch + 1 ≤ k → k + (pitch + 1) < n → get_or d (area + k) 0 ≡ difference_at copy 1 k
  pub d0 : (k : ℕ) → pitch + 1 ≤ k → k + (pitch + 1) < n → get_or d (2 * area + k) 0 ≡ difference_at copy (pitch + 1) k
  pub d1 : (k : ℕ) → pitch + 1 ≤ k → k + (pitch + 1) < n → get_or d (3 * area + k) 0 ≡ difference_at copy (pitch - 1) k

-- ---- sums

-- the two samples of a 2 by 2 cell that count: those whose offsets are both even, and both odd
abbrev pub pair_at : List ℕ → ℕ → ℕ → ℕ
pair_at d pitch k = get_or d k 0 + get_or d (k + (pitch + 1)) 0

-- the sum of a column over so many pairs of rows
unfoldable pub column_sum : List ℕ → ℕ → ℕ → ℕ → ℕ
column_sum d pitch pairs k = sum_below pairs (λ u. pair_at d pitch (k + u * (2 * pitch)))

-- (1476) to (1479): the sum over the window's eight columns
unfoldable pub block_sum : List ℕ → ℕ → ℕ → ℕ → ℕ
block_sum d pitch pairs k = sum_below 4 (λ i. column_sum d pitch pairs (k + 2 * i))

-- ---- as code has them

-- the entries from index `from` to `to`, the last one not counted, are as small as differences of samples below 4096
abbrev pub SmallRun : List ℕ → ℕ → ℕ → Type 0
SmallRun d from to = (k : ℕ) → from ≤ k → k < to → get_or d k 0 ≤ 8190

-- n + reach entries from index `from` on are so small in each direction
abbrev pub SmallRuns : List ℕ → ℕ → ℕ → ℕ → Type 0
SmallRuns d from n reach =
    SmallRun d from (from + n + reach) × SmallRun d (area + from) (area + from + n + reach)
    × SmallRun d (2 * area + from) (2 * area + from + n + reach)
    × SmallRun d (3 * area + from) (3 * area + from + n + reach)

-- the sum of the x-th column from index `from` on
abbrev pub column_from : List ℕ → ℕ → ℕ → ℕ → ℕ → ℕ
column_from d pitch pairs from x = column_sum d pitch pairs (from + x)

-- the sum over the columns of a window, whose first stands at index `at` of a list of sums
unfoldable pub four_columns : List ℕ → ℕ → ℕ
four_columns sums at = sum_below 4 (λ i. get_or sums (at + 2 * i) 0)

-- the sums of a block's window, from the sums of columns in each direction
unfoldable pub column_sums : ColumnSums → ℕ → Sums
column_sums s at = record {
  v = four_columns s.v at;
  h = four_columns s.h at;
  d0 = four_columns s.d0 at;
  d1 = four_columns s.d1 at;
}

-- the sums of a block's window, from the differences
unfoldable pub block_sums : List ℕ → ℕ → ℕ → ℕ → Sums
block_sums d pitch pairs k = record {
  v = block_sum d pitch pairs k;
  h = block_sum d pitch pairs (area + k);
  d0 = block_sum d pitch pairs (2 * area + k);
  d1 = block_sum d pitch pairs (3 * area + k);
}

-- the class number at index k of the map, from the sums of columns, of which the first belongs to the block at index `at`
abbrev pub column_class : ColumnSums → ℕ → ℕ → ℕ → ℕ → ℕ
column_class s factor depth at k = class_number (class_of_sums depth factor (column_sums s (4 * (k - at))))

-- the class number at index k of the map, from the differences; those of the window of the block at index `at` begin at index `from`
abbrev pub row_class : List ℕ → ℕ → WindowRows → ℕ → ℕ → ℕ → ℕ → ℕ
row_class d pitch r depth from at k = class_number (class_of_sums depth r.factor (block_sums d pitch (r.count / 2) (from + 4 * (k - at))))
