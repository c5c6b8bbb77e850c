-- The copy of a piece with a margin of 3 samples on each side: which sample of the plane stands where. `proofs/CopyReads` shows that it is
-- the sample at the padded position of `alf_spec`, for every sample of the piece and every neighbour in reach. Assumes nothing.
use Rattle.std.specs.Prelude.{◌&&◌, cond, List, ℕ, pred, ◌+◌, ◌-◌, ◌*◌, ◌/◌, ◌%◌, ◌≤◌, ◌<◌, min, max, leb, ltb, get_or}
use Rattle.alf_spec.specs.declared.Sides.{Sides}
use Rattle.alf_pieces.specs.declared.pieces.Piece.{Piece}
use Rattle.alf_pieces.specs.declared.copies.RowRange.{RowRange}

-- the position p, held to those from `lowest` to `limit`, the last one not counted
abbrev pub held : ℕ → ℕ → ℕ → ℕ
held lowest limit p = min (pred limit) (max lowest p)

-- the samples of a piece along its axis
abbrev pub extent : Piece → ℕ
extent p = p.end - p.start

-- the samples of a piece's copy along that axis: 3 more on each side
abbrev pub pitch : Piece → ℕ
pitch p = extent p + 6

-- how many samples the copy has
abbrev pub copy_length : Piece → Piece → ℕ
copy_length columns rows = pitch rows * pitch columns

-- room for the copy of every piece, which has at most 134 by 134 samples
abbrev pub area : ℕ
area = 17956

module _ (columns rows : Piece) (s : Sides) where
  -- the plane's row that stands in row j of the copy
  unfoldable pub copy_row : ℕ → ℕ
  copy_row j = held rows.lowest rows.limit (rows.start + j - 3)

  -- the first column that is read in the plane's row v: past the upper left corner it is the piece's own, where filtering across is
  -- disabled
  unfoldable pub row_lowest : ℕ → ℕ
  row_lowest v = cond (s.upper_left && ltb v rows.start) columns.start columns.lowest

  -- the first column that is not read any more in the plane's row v: past the lower right corner it is the first after the piece, where
  -- filtering across is disabled
  unfoldable pub row_limit : ℕ → ℕ
  row_limit v = cond (s.lower_right && leb rows.end v) columns.end columns.limit

  -- what row j of the copy holds, of a plane with so many columns
  unfoldable pub row_range : ℕ → ℕ → RowRange
  row_range width j = record {
    row = copy_row j * width;
    start = columns.start;
    lowest = row_lowest (copy_row j);
    limit = row_limit (copy_row j);
  }

  -- the plane's column that stands in column i of the copy, in a row that holds the plane's row v
  unfoldable pub copy_column : ℕ → ℕ → ℕ
  copy_column v i = held (row_lowest v) (row_limit v) (columns.start + i - 3)

  -- the sample at column i and row j of the copy of a piece of a plane with so many columns
  unfoldable pub copied : List ℕ → ℕ → ℕ → ℕ → ℕ
  copied plane width i j = get_or plane (copy_row j * width + copy_column (copy_row j) i) 0

  -- the sample at index k of the copy
  unfoldable pub copy_at : List ℕ → ℕ → ℕ → ℕ
  copy_at plane width k = copied plane width (k % pitch columns) (k / pitch columns)

-- ---- what the parts of a copy hold, at its index k

-- samples of the plane in a run, which goes from `from` to `at`
unfoldable pub run_at : List ℕ → ℕ → ℕ → ℕ → ℕ
run_at plane from at k = get_or plane (from + (k - at)) 0

-- a row of the copy, which begins at `at`
unfoldable pub row_at : List ℕ → RowRange → ℕ → ℕ → ℕ
row_at plane r at k = get_or plane (r.row + held r.lowest r.limit (r.start + (k - at) - 3)) 0

-- n columns, which are not held, lie in the range of a row, and that in a plane of so many samples
pub record RowRoom (r : RowRange) (n plane : ℕ) : Type 0 where
  pub low : r.lowest ≤ r.start
  pub filled : 0 < n
  pub high : r.start + n ≤ r.limit
  pub inside : r.row + r.limit ≤ plane
