-- What the isolation test reads lies in the region: a side that is not disabled has a block across. Assumes nothing.
use mathlib.Core.Path.{◌≡◌, ap}
use mathlib.Core.Bool.{Bool, true, false, not, ◌&&◌, ◌||◌}
use mathlib.Core.List.{List}
use Prim.Native.Nat.{ℕ, ◌+◌, ◌-◌, ◌*◌, ◌/◌, ◌%◌, ◌≤◌, ◌<◌}
use native.Mathlib.Nat.{mul_comm, mul-le-mul, mul-le-mul_right}
use native.Mathlib.Omega.{arith}
use lib.Dec.{ltb}
use borrow.Author.Tests.{ltb-true, not-false}
use lib.ListN.{length}
use Rattle.alf_spec.specs.declared.Ctb.{Ctb}
use Rattle.alf_spec.specs.declared.Picture.{Picture}
use Rattle.alf_spec.specs.declared.Sides.{Sides}
use Rattle.alf_spec.specs.Lists.{all_below}
use Rattle.alf_spec.specs.Boundary.{disables}
use Rattle.alf_spec.proofs.Tests.{both, neither}
use Rattle.alf_isolation.specs.declared.steps.BlockSides.{BlockSides}
use Rattle.alf_isolation.specs.Steps.{step_open, row_sides, block_sides, blocks_along, block_test, row_test, ctb_test, BlocksOf, RowIn}
use Rattle.alf_isolation.specs.Steps.{BlockIn}

-- ---- diagonal steps lead to a block of the region

module _ {n columns k : ℕ} {s : BlockSides} (b : BlockIn n columns k s) where
  pub upper_left_lem : (s.left || (s.top || s.upper_left)) ≡ false → columns + 1 ≤ k
  upper_left_lem e =
      let p = neither s.left _ e in
      b.upper_left p.0 (neither s.top _ p.1).0

  pub lower_left : (s.left || s.bottom) ≡ false → k + (columns - 1) < n
  lower_left e = omega (arith, b.wide, b.bottom (neither s.left _ e).1)

  pub upper_right : (s.right || s.top) ≡ false → columns - 1 ≤ k
  upper_right e = omega (arith, b.top (neither s.right _ e).1)

  pub lower_right_lem : (s.right || (s.bottom || s.lower_right)) ≡ false → k + (columns + 1) < n
  lower_right_lem e =
      let p = neither s.right _ e in
      b.lower_right p.0 (neither s.bottom _ p.1).0

-- ---- the blocks of a row, the rows of a region

-- an open step crosses a boundary inside the picture
open_within : (size ctb : ℕ) (list : List ℕ) (disabled : Bool) (b : ℕ) → step_open size ctb list disabled b ≡ true → (0 < b) × (b < size)
unfolding step_open
open_within size ctb list disabled b e =
    let p = both (ltb 0 b) (ltb b size) (both (ltb 0 b && ltb b size) _ e).0 in
    (ltb-true 0 b p.0, ltb-true b size p.1)

-- a block that is open before it is not the first, and one that is open after it is not the last
module _ (size ctb : ℕ) (list : List ℕ) (disabled : Bool) (x : ℕ) where
  block_before : not (step_open size ctb list disabled (8 * x)) ≡ false → 1 ≤ x
  block_before e = omega (arith, open_within size ctb list disabled (8 * x) (not-false _ e))

  block_after : size % 8 ≡ 0 → not (step_open size ctb list disabled (8 * x + 8)) ≡ false → x + 2 ≤ size / 8
  block_after whole e = omega (arith, open_within size ctb list disabled (8 * x + 8) (not-false _ e))

-- a block of a row
pub block_in : {width ctb n from : ℕ} {s : BlockSides} → RowIn width ctb n from s → (list : List ℕ) (x : ℕ) → x < width / 8
    → {own : BlockSides} → own ≡ block_sides width ctb list s x → BlockIn n (width / 8) (from + x) own
unfolding block_sides
block_in {width} {ctb} {n} {from} {s} r list x h e = rw e (record {
  wide = omega arith;
  small = omega (arith, r.width_high);
  here = omega (arith, r.here);
  left = λ l. omega (arith, left l);
  right = λ l. omega (arith, right l, r.here);
  top = λ t. omega (arith, r.top t);
  bottom = λ t. omega (arith, r.bottom t);
  upper_left = λ l t. omega (arith, left l, r.top t);
  lower_right = λ l t. omega (arith, right l, r.bottom t);
})
  where
    left : not (step_open width ctb list s.left (8 * x)) ≡ false → 1 ≤ x
    left = block_before width ctb list s.left x

    right : not (step_open width ctb list s.right (8 * x + 8)) ≡ false → x + 2 ≤ width / 8
    right = block_after width ctb list s.right x r.width8

-- the first block of a row
pub row-begins : {p : Picture} {ctb : ℕ} {region : List ℕ} → BlocksOf p ctb region → (y : ℕ) → y < p.height / 8
    → y * (p.width / 8) ≤ 262144
row-begins b y h = mul-le-mul {n₂ = 512} {m₂ = 512} (omega (arith, b.height_high)) (omega (arith, b.width_high))

-- a row of blocks
pub row_in : {p : Picture} {ctb : ℕ} {region : List ℕ} → BlocksOf p ctb region → (list : List ℕ) (s : Sides) (y : ℕ) → y < p.height / 8
    → {own : BlockSides} → own ≡ row_sides p.height ctb list s y → RowIn p.width ctb (length region) (y * (p.width / 8)) own
unfolding row_sides
row_in {p} {ctb} {region} b list s y h e = rw e (record {
  ctb_low = b.ctb_low;
  width_high = b.width_high;
  width8 = b.width8;
  few = rw b.numbers (mul-le-mul {n₂ = 512} {m₂ = 512} (omega (arith, b.width_high)) (omega (arith, b.height_high)));
  here = omega (arith, room (y + 1) (omega arith));
  top = λ t. omega (arith, mul-le-mul_right (p.width / 8) (above t));
  bottom = λ t. omega (arith, room (y + 2) (below t));
})
  where
    -- so many rows have room in the region
    room : (n : ℕ) → n ≤ p.height / 8 → n * (p.width / 8) ≤ length region
    room n k = rw (b.numbers, mul_comm (p.width / 8)) (mul-le-mul_right (p.width / 8) k)

    above : not (step_open p.height ctb list (disables s.top) (8 * y)) ≡ false → 1 ≤ y
    above = block_before p.height ctb list (disables s.top) y

    below : not (step_open p.height ctb list (disables s.bottom) (8 * y + 8)) ≡ false → y + 2 ≤ p.height / 8
    below = block_after p.height ctb list (disables s.bottom) y b.height8

-- ---- the tests, as the code has them

module _ (p : Picture) (ctb : ℕ) (virtual_columns virtual_rows region : List ℕ) (s : Sides) where
  pub row_test_lem : (first count y : ℕ) {own : BlockSides} → own ≡ row_sides p.height ctb virtual_rows s y
      → {r : Bool} → r ≡ all_below count (λ i. block_test p.width ctb virtual_columns region (y * (p.width / 8)) own (first + i))
      → r ≡ row_test p ctb virtual_columns virtual_rows region s first count y
  unfolding row_test
  row_test_lem first count y sides e = rw (← sides) e

  pub ctb_test_lem : (c : Ctb) {columns rows : ℕ} → columns ≡ blocks_along p.width ctb c.column
      → rows ≡ blocks_along p.height ctb c.row
      → {r : Bool}
      → r ≡ all_below rows (λ j. row_test p ctb virtual_columns virtual_rows region s (c.column * (ctb / 8)) columns (c.row * (ctb / 8) + j))
      → r ≡ ctb_test p ctb virtual_columns virtual_rows region c s
  unfolding ctb_test
  ctb_test_lem c wide high e = rw (← wide, ← high) e

-- ---- the blocks of a CTB along an axis

module _ (size ctb q : ℕ) (ctb8 : ctb % 8 ≡ 0) (begins : q * ctb < size) where
  pub first_block : q * (ctb / 8) ≤ size / 8
  first_block =
      let whole : 8 * (ctb / 8) ≡ ctb = omega arith in
      omega (arith, ap (λ (n : ℕ). q * n) whole)

  pub blocks-within : {count : ℕ} → count ≡ blocks_along size ctb q → q * (ctb / 8) + count ≤ size / 8
  unfolding blocks_along
  blocks-within e = omega (arith, first_block)

-- a row of blocks of the CTB at place q of the rows is one of the picture's
pub row_below : {p : Picture} {ctb : ℕ} {region : List ℕ} → BlocksOf p ctb region → (q j : ℕ) → q * ctb < p.height
    → {rows : ℕ} → rows ≡ blocks_along p.height ctb q → j < rows → q * (ctb / 8) + j < p.height / 8
row_below b q j begins e below = omega (arith, blocks-within _ _ q b.ctb8 begins e)
