-- The filters of a row of blocks, once they are spread: at each column stands the filter of its block, in the order of its transpose.
-- Assumes nothing.
use mathlib.Core.Path.{◌≡◌, refl, ap, ◌∙◌}
use mathlib.Core.Bool.{Bool, true, false}
use mathlib.Core.List.{List}
use Prim.Native.Nat.{ℕ, ◌+◌, ◌-◌, ◌*◌, ◌/◌, ◌%◌, ◌≤◌, ◌<◌}
use native.Mathlib.Omega.{arith}
use lib.IntN.{ℤ, pos}
use lib.ListN.{length, get_or}
use borrow.Author.Tests.{lt-ltb, le-ltb}
use Rattle.alf_spec.specs.declared.Class.{Class}
use Rattle.alf_spec.specs.declared.WindowRows.{WindowRows}
use Rattle.alf_spec.specs.Classes.{class_of}
use Rattle.alf_spec.specs.Luma.{tap_order}
use Rattle.alf_spec.specs.Process.{class_number}
use Rattle.alf_spec.proofs.TapOrder.{each_below}
use Rattle.alf_math.specs.Integers.{CoeffRange, ClipRange}
use Rattle.alf_direction.proofs.Gradients.{class_range}
use Rattle.alf_lists.specs.Regions.{in_rect}
use Rattle.alf_lists.specs.Filled.{Filled}
use Rattle.alf_lists.proofs.Painted.{fill_in, fill_out}
use Rattle.alf_lists.proofs.Regions.{in_rect_lem, rect_facts}
use Rattle.alf_taps.specs.Spread.{clips_at, spread_coeff, spread_clip, TapNumbers}
use Rattle.alf_params.specs.Filters.{FilterNumbers}
use Rattle.alf_luma.specs.SpreadFilters.{tap_index, TapOrders, spread_from}

-- there are 25 classes and 4 transposes
abbrev pub ClassRange : Class → Type 0
ClassRange c = (c.filter < 25) × (c.transpose < 4)

pub class_of_range : (depth : ℕ) (r : WindowRows) (window : List ℕ) → ClassRange (class_of depth r window)
unfolding class_of
class_of_range depth r window = class_range depth _ _

-- a class by its number
pub number_parts : {n : ℕ} {c : Class} → n ≡ class_number c → ClassRange c → (n % 32 ≡ c.filter) × (n / 32 ≡ c.transpose)
number_parts e h = (omega arith, omega arith)

pub number_range : {n : ℕ} {c : Class} → n ≡ class_number c → ClassRange c → (n % 32 < 25) × (n / 32 < 4)
number_range e h = (omega arith, omega arith)

-- an entry of the tap orders, for a coefficient and for a clip
coeff_index : (t j : ℕ) → j < 12 → tap_index t j ≡ tap_order t j
unfolding tap_index
coeff_index t j h = rw (lt-ltb j 12 h)

clip_index : (t j : ℕ) → tap_index t (12 + j) ≡ 12 + tap_order t j
unfolding tap_index
clip_index t j =
    let back : 12 + j - 12 ≡ j = omega arith in
    rw (le-ltb (12 + j) 12 (omega arith), back)

-- the filter of a class, in the order of its transpose: coefficient j, and clip j
abbrev pub own_coeff : List ℤ → Class → ℕ → ℤ
own_coeff filters c j = get_or filters (24 * c.filter + tap_order c.transpose j) (pos 0)

abbrev pub own_clip : List ℤ → Class → ℕ → ℤ
own_clip filters c j = get_or filters (24 * c.filter + (12 + tap_order c.transpose j)) (pos 0)

-- the filter of its block stands at each of n columns
pub record RowFilters (filters taps : List ℤ) (class : ℕ → Class) (n : ℕ) : Type 0 where
  pub coefficients : (x j : ℕ) → x < n → j < 12 → spread_coeff taps x j ≡ own_coeff filters (class (x / 4)) j
  pub clips : (x j : ℕ) → x < n → j < 12 → spread_clip taps x j ≡ own_clip filters (class (x / 4)) j

module _ (filters : List ℤ) (orders map : List ℕ) {taps0 taps : List ℤ} (at count : ℕ) (class : ℕ → Class)
    (filled : Filled (pos 0) taps0 (in_rect 128 0 (4 * count) 0 24) (spread_from filters orders map at) taps) (order : TapOrders orders)
    (room : 2 * clips_at ≤ length taps0) (few : count ≤ 32) (numbers : (b : ℕ) → b < count → get_or map (at + b) 0 ≡ class_number (class b))
    (range : (b : ℕ) → ClassRange (class b)) where
  -- number m of column x
  number_at : (m x : ℕ) → m < 24 → x < 4 * count
      → get_or taps (128 * m + x) (pos 0) ≡ get_or filters (24 * (class (x / 4)).filter + tap_index (class (x / 4)).transpose m) (pos 0)
  number_at m x hm hx =
      let k : ℕ = 128 * m + x in
      let block : k % 128 / 4 ≡ x / 4 = omega arith in
      let row : k / 128 ≡ m = omega arith in
      let own : get_or map (at + k % 128 / 4) 0 ≡ class_number (class (x / 4)) = ap (λ (b : ℕ). get_or map (at + b) 0) block
      ∙ numbers (x / 4) (omega arith) in
      let parts = number_parts own (range (x / 4)) in
      fill_in filled k (omega arith) (in_rect_lem 128 0 (4 * count) 0 24 k (omega arith))
      ∙ (λ u. get_or filters (24 * parts.0 u + get_or orders (24 * parts.1 u + row u) 0) (pos 0))
      ∙ ap (λ (p : ℕ). get_or filters (24 * (class (x / 4)).filter + p) (pos 0))
      (order.entries (class (x / 4)).transpose m (range (x / 4)).1 hm)

  coeff_at_lem : (x j : ℕ) → x < 4 * count → j < 12 → spread_coeff taps x j ≡ own_coeff filters (class (x / 4)) j
  coeff_at_lem x j hx hj = rw (← (coeff_index (class (x / 4)).transpose j hj)) (number_at j x (omega arith) hx)

  clip-at : (x j : ℕ) → x < 4 * count → j < 12 → spread_clip taps x j ≡ own_clip filters (class (x / 4)) j
  clip-at x j hx hj =
      let index : clips_at + (128 * j + x) ≡ 128 * (12 + j) + x = omega arith in
      ap (λ (k : ℕ). get_or taps k (pos 0)) index
      ∙ rw (← (clip_index (class (x / 4)).transpose j)) (number_at (12 + j) x (omega arith) hx)

  pub row-filters : (n : ℕ) → n ≤ 4 * count → RowFilters filters taps class n
  row-filters n h = record { coefficients = λ x j hx. coeff_at_lem x j (omega arith); clips = λ x j hx. clip-at x j (omega arith) }

  -- all stay in their ranges
  module _ (valid : FilterNumbers filters) (old : TapNumbers taps0) where
    abbrev written : ℕ → Bool
    written k = in_rect 128 0 (4 * count) 0 24 k

    pub spread-numbers : TapNumbers taps
    spread-numbers = record {
      room = omega (arith, filled.len);
      coefficients = λ k h. coefficients k h (written k) refl;
      clips = λ k h. clips k h (written (clips_at + k)) refl;
    }
      where
        coefficients : (k : ℕ) → k < clips_at → (b : Bool) → written k ≡ b → CoeffRange (get_or taps k (pos 0))
        coefficients k h true e =
            let f = rect_facts 128 0 (4 * count) 0 24 k e in
            let index : 128 * (k / 128) + k % 128 ≡ k = omega arith in
            let r = range (k % 128 / 4) in
            rw (rw index at (coeff_at_lem (k % 128) (k / 128) (omega arith) (omega arith)))
            (valid.coefficients _ _ r.0 (each_below _ r.1 (k / 128) (omega arith)))
        coefficients k h false e = rw (fill_out filled k (omega arith) e) (old.coefficients k h)

        clips : (k : ℕ) → k < clips_at → (b : Bool) → written (clips_at + k) ≡ b → ClipRange (get_or taps (clips_at + k) (pos 0))
        clips k h true e =
            let f = rect_facts 128 0 (4 * count) 0 24 (clips_at + k) e in
            let index : 128 * (k / 128) + k % 128 ≡ k = omega arith in
            let r = range (k % 128 / 4) in
            rw (rw index at (clip-at (k % 128) (k / 128) (omega arith) (omega arith)))
            (valid.clips _ _ r.0 (each_below _ r.1 (k / 128) (omega arith)))
        clips k h false e = rw (fill_out filled (clips_at + k) (omega arith) e) (old.clips k h)
