-- The sums over a block's class window, as `alf_spec` has them, are those by pairs of rows over the differences of the copy. Assumes
-- nothing.
use mathlib.Core.Path.{◌≡◌, sym, ◌∙◌, ap, ap₂}
use mathlib.Core.Bool.{Bool, ◌&&◌}
use mathlib.Core.List.{List}
use Prim.Native.Nat.{ℕ, ◌+◌, ◌-◌, ◌*◌, ◌/◌, ◌%◌, ◌≤◌, ◌<◌}
use native.Mathlib.Nat.{zero-add, mul-le-mul_right}
use native.Mathlib.Omega.{arith}
use lib.Dec.{eqb}
use lib.ListN.{get_or}
use Rattle.alf_spec.specs.declared.WindowRows.{WindowRows}
use Rattle.alf_spec.specs.Lists.{sum_below}
use Rattle.alf_spec.specs.Arithmetic.{distance}
use Rattle.alf_spec.specs.Classes.{filt_h, filt_v, filt_d0, filt_d1, window_rows, window_sum, window_sums}
use Rattle.alf_spec.proofs.Tests.{cond_either}
use Rattle.alf_spec.proofs.Lists.{tabulate-at, sum_same}
use Rattle.alf_pieces.specs.Copies.{area}
use Rattle.alf_classify.specs.Windows.{copy_window, difference_at, Differences, column_sum, block_sum, block_sums}

-- ---- the rows that count

-- what holds of the three kinds of windows
rows_either : (P : WindowRows → Type 0) → P (record { first = 1; count = 6; factor = 3 }) → P (record { first = 3; count = 6; factor = 3 })
    → P (record { first = 1; count = 8; factor = 2 }) → (line : Bool) (ctb y : ℕ) → P (window_rows line ctb y)
unfolding window_rows
rows_either P upper lower whole line ctb y =
    cond_either P (line && eqb y (ctb - 8)) _ _ upper (cond_either P (line && eqb y (ctb - 4)) _ _ lower whole)

-- how many rows a window has, and where they lie
abbrev pub RowBounds : WindowRows → Type 0
RowBounds r = (1 ≤ r.first) × (r.first + 2 * (r.count / 2) ≤ 9) × (3 ≤ r.count / 2) × (r.count / 2 ≤ 4) × (r.factor ≤ 3)

pub row_bounds : (line : Bool) (ctb y : ℕ) → RowBounds (window_rows line ctb y)
row_bounds line ctb y = rows_either RowBounds (omega arith) (omega arith) (omega arith) line ctb y

-- the sum over a window by 2 by 2 cells, of which two samples count
cells : (ℕ → ℕ → ℕ) → ℕ → ℕ → ℕ
cells f first pairs = sum_below 4 (λ i. sum_below pairs (λ u. f (1 + 2 * i) (first + 2 * u) + f (2 + 2 * i) (first + 2 * u + 1)))

by_cells : (f : ℕ → ℕ → ℕ) (line : Bool) (ctb y : ℕ) → let r = window_rows line ctb y in window_sum r f ≡ cells f r.first (r.count / 2)
unfolding window_sum sum_below cells
by_cells f line ctb y = rows_either (λ r. window_sum r f ≡ cells f r.first (r.count / 2)) (omega arith) (omega arith)
    (omega arith) line ctb y

-- ---- the differences at the window's samples

module _ (copy : List ℕ) (pitch s t : ℕ) where
  -- where column i and row j of the window stand in the copy
  abbrev index : ℕ → ℕ → ℕ
  index i j = (t + j) * pitch + (s + i)

  abbrev window : List ℕ
  window = copy_window copy pitch s t

  window_at : (i j : ℕ) → i < 10 → j < 10 → get_or window (10 * j + i) 0 ≡ get_or copy (index i j) 0
  unfolding copy_window
  window_at i j column row =
      let down : (10 * j + i) / 10 ≡ j = omega arith in
      let across : (10 * j + i) % 10 ≡ i = omega arith in
      tabulate-at 100 _ (10 * j + i) (omega arith) ∙ ap₂ (λ (b a : ℕ). get_or copy (index a b) 0) down across

  -- a sample between two others
  difference_at_lem : (step i j a b c d : ℕ) → (i < 10) × (j < 10) × (a < 10) × (b < 10) × (c < 10) × (d < 10)
      → index a b ≡ index i j - step → index c d ≡ index i j + step
      → distance (2 * get_or window (10 * j + i) 0) (get_or window (10 * b + a) 0 + get_or window (10 * d + c) 0)
      ≡ difference_at copy step (index i j)
  unfolding difference_at
  difference_at_lem step i j a b c d h before after =
      rw (window_at i j h.0 h.1, window_at a b h.2 h.3, window_at c d h.4 h.5, before, after)

  -- a row above, and a row below
  row_above : (j : ℕ) → 1 ≤ j → (t + j) * pitch ≡ (t + (j - 1)) * pitch + pitch
  row_above j h = let e : t + j ≡ t + (j - 1) + 1 = omega arith in ap (λ (n : ℕ). n * pitch) e ∙ omega arith

  -- the four directions, at the samples that have neighbours in the window
  module _ (i j : ℕ) (h : (1 ≤ i) × (i ≤ 8) × (1 ≤ j) × (j ≤ 8)) (wide : 1 ≤ pitch) where
    filt_v_lem : filt_v window i j ≡ difference_at copy pitch (index i j)
    unfolding filt_v
    filt_v_lem = let e = row_above j h.2 in difference_at_lem pitch i j i (j - 1) i (j + 1) (omega arith) (omega arith) (omega arith)

    filt_h_lem : filt_h window i j ≡ difference_at copy 1 (index i j)
    unfolding filt_h
    filt_h_lem = difference_at_lem 1 i j (i - 1) j (i + 1) j (omega arith) (omega arith) (omega arith)

    filt_d0_lem : filt_d0 window i j ≡ difference_at copy (pitch + 1) (index i j)
    unfolding filt_d0
    filt_d0_lem = let e = row_above j h.2 in difference_at_lem (pitch + 1) i j (i - 1) (j - 1) (i + 1) (j + 1) (omega arith)
        (omega arith) (omega arith)

    filt_d1_lem : filt_d1 window i j ≡ difference_at copy (pitch - 1) (index i j)
    unfolding filt_d1
    filt_d1_lem = let e = row_above j h.2 in difference_at_lem (pitch - 1) i j (i + 1) (j - 1) (i - 1) (j + 1) (omega arith)
        (omega arith) (omega arith)

  -- ---- the sums

  -- the sum in one direction, whose differences stand from index `at` of the list on
  sum_of_cells : (d : List ℕ) (f : ℕ → ℕ → ℕ) (at first pairs : ℕ) → (1 ≤ first) × (first + 2 * pairs ≤ 9)
      → ((i j : ℕ) → (1 ≤ i) × (i ≤ 8) × (1 ≤ j) × (j ≤ 8) → f i j ≡ get_or d (at + index i j) 0)
      → cells f first pairs ≡ block_sum d pitch pairs (at + index 1 first)
  unfolding cells block_sum column_sum
  sum_of_cells d f at first pairs h e =
      sum_same 4 _ _ (λ i l.
      sum_same pairs _ _ (λ u m.
      let even : at + index (1 + 2 * i) (first + 2 * u) ≡ at + index 1 first + 2 * i + u * (2 * pitch) = omega arith in
      let odd : at + index (2 + 2 * i) (first + 2 * u + 1) ≡ at + index 1 first + 2 * i + u * (2 * pitch) + (pitch + 1) = omega arith in
      ap₂ (λ (a b : ℕ). a + b)
      (e (1 + 2 * i) (first + 2 * u) (omega arith) ∙ ap (λ (k : ℕ). get_or d k 0) even)
      (e (2 + 2 * i) (first + 2 * u + 1) (omega arith) ∙ ap (λ (k : ℕ). get_or d k 0) odd)))

  -- the sums in all four directions, where the window lies in the copy
  module _ (d : List ℕ) (n : ℕ) (D : Differences copy pitch n d) (column : s + 10 ≤ pitch) (row : (t + 10) * pitch ≤ n) where
    inside : (i j : ℕ) → (1 ≤ i) × (i ≤ 8) × (1 ≤ j) × (j ≤ 8) → (pitch + 1 ≤ index i j) × (index i j + (pitch + 1) < n)
    inside i j h =
        let low : (t + 1) * pitch ≤ (t + j) * pitch = mul-le-mul_right pitch (omega arith) in
        let high : (t + j) * pitch ≤ (t + 8) * pitch = mul-le-mul_right pitch (omega arith) in
        omega arith

    module _ (line : Bool) (ctb y : ℕ) where
      abbrev rows : WindowRows
      rows = window_rows line ctb y

      one_sum : (f : ℕ → ℕ → ℕ) (at : ℕ)
          → ((i j : ℕ) → (1 ≤ i) × (i ≤ 8) × (1 ≤ j) × (j ≤ 8) → f i j ≡ get_or d (at + index i j) 0)
          → window_sum rows f ≡ block_sum d pitch (rows.count / 2) (at + index 1 rows.first)
      one_sum f at e =
          let b = row_bounds line ctb y in
          by_cells f line ctb y ∙ sum_of_cells d f at rows.first (rows.count / 2) (b.0, b.1) e

      pub window_sums_lem : window_sums rows window ≡ block_sums d pitch (rows.count / 2) (index 1 rows.first)
      unfolding window_sums block_sums
      window_sums_lem =
          let wide : 1 ≤ pitch = omega arith in
          rw (
            rw zero-add at (one_sum (filt_v window) 0 (λ i j h. let k = inside i j h in filt_v_lem i j h wide
                ∙ rw zero-add (sym (D.v _ k.0 k.1)))),
            one_sum (filt_h window) area (λ i j h. let k = inside i j h in filt_h_lem i j h wide ∙ sym (D.h _ k.0 k.1)),
            one_sum (filt_d0 window) (2 * area) (λ i j h. let k = inside i j h in filt_d0_lem i j h wide ∙ sym (D.d0 _ k.0 k.1)),
            one_sum (filt_d1 window) (3 * area) (λ i j h. let k = inside i j h in filt_d1_lem i j h wide ∙ sym (D.d1 _ k.0 k.1)),
          )
