-- Sums over pairs of rows and over columns, written out as code adds them. Assumes nothing.
use mathlib.Core.Path.{◌≡◌, refl, ◌∙◌, ap}
use mathlib.Core.List.{List}
use Prim.Native.Nat.{ℕ, ◌+◌, ◌*◌, ◌≤◌, ◌<◌}
use native.Mathlib.Nat.{add-zero, zero-add}
use native.Mathlib.Numerals.{add-one}
use native.Mathlib.Omega.{arith}
use lib.ListN.{length, get_or}
use Rattle.alf_spec.specs.Lists.{sum_below, painted}
use Rattle.alf_spec.proofs.Lists.{sum_same}
use Rattle.alf_lists.specs.Regions.{between}
use Rattle.alf_pieces.specs.Copies.{area}
use Rattle.alf_lists.proofs.Painted.{Paint, paint_of, paint_in}
use Rattle.alf_lists.proofs.Regions.{in_run}
use Rattle.alf_classify.specs.declared.blocks.ColumnSums.{ColumnSums}
use Rattle.alf_classify.specs.Windows.{column_sum, block_sum, column_from, four_columns, column_sums, block_sums}

-- a column over no pairs of rows, and over one more
pub column_none : (d : List ℕ) (pitch k : ℕ) → column_sum d pitch 0 k ≡ 0
unfolding column_sum sum_below
column_none d pitch k = refl

pub column_more : (d : List ℕ) (pitch u k : ℕ)
    → column_sum d pitch (u + 1) k ≡ column_sum d pitch u k + (get_or d (k + u * (2 * pitch)) 0 + get_or d (k + u * (2 * pitch) + (pitch + 1)) 0)
unfolding column_sum sum_below
column_more d pitch u k = simp add-one

pub four_columns_lem : (sums : List ℕ) (at : ℕ) → four_columns sums at ≡ get_or sums at 0 + get_or sums (at + 2) 0 + get_or sums
    (at + 4) 0 + get_or sums (at + 6) 0
unfolding four_columns sum_below
four_columns_lem sums at = simp (add-zero, zero-add)

-- ---- blocks

-- what the sums of n columns from index `from` on say of the block whose window begins at column m of them
module _ (d : List ℕ) (pitch pairs n m : ℕ) (inside : m + 6 < n) where
  block_columns : (from : ℕ) {zs sums : List ℕ} → n ≤ length zs → Paint zs (between 0 n) (column_from d pitch pairs from) sums
      → four_columns sums m ≡ block_sum d pitch pairs (from + m)
  unfolding four_columns block_sum
  block_columns from room P =
      sum_same 4 _ _ (λ i h.
      let index : from + (m + 2 * i) ≡ from + m + 2 * i = omega arith in
      paint_in P (m + 2 * i) (omega arith) (in_run 0 n (m + 2 * i) (omega arith)) ∙ ap (λ (k : ℕ). column_sum d pitch pairs k) index)

  pub sums_of_block : (from : ℕ) (zs : List ℕ) (s : ColumnSums) → n ≤ length zs
      → s.v ≡ painted zs (between 0 n) (column_from d pitch pairs from)
      → s.h ≡ painted zs (between 0 n) (column_from d pitch pairs (area + from))
      → s.d0 ≡ painted zs (between 0 n) (column_from d pitch pairs (2 * area + from))
      → s.d1 ≡ painted zs (between 0 n) (column_from d pitch pairs (3 * area + from))
      → column_sums s m ≡ block_sums d pitch pairs (from + m)
  unfolding column_sums block_sums
  sums_of_block from zs s room P Q R S =
      let h : area + from + m ≡ area + (from + m) = omega arith in
      let d0 : 2 * area + from + m ≡ 2 * area + (from + m) = omega arith in
      let d1 : 3 * area + from + m ≡ 3 * area + (from + m) = omega arith in
      rw (
        block_columns from room (paint_of P),
        block_columns (area + from) room (paint_of Q),
        block_columns (2 * area + from) room (paint_of R),
        block_columns (3 * area + from) room (paint_of S),
        h,
        d0,
        d1,
      )
