-- Runs of a list and rectangles of a plane: their tests as facts, and how they grow. Assumes nothing.
use mathlib.Core.Path.{◌≡◌, ap}
use mathlib.Core.Bool.{true, false, ◌&&◌, ◌||◌}
use mathlib.Core.Logic.{◌⊎◌, inl, inr, ⊎_elim}
use Prim.Native.Nat.{ℕ, ◌+◌, ◌*◌, ◌-◌, ◌/◌, ◌%◌, ◌≤◌, ◌<◌}
use native.Mathlib.Nat.{zero-add, div-add-mod', mul-le-mul_right}
use native.Mathlib.Omega.{arith}
use native.Mathlib.Decide.{dec_lt}
use lib.Arith.{digits_div, digits_mod}
use lib.Dec.{eqb, leb, ltb}
use borrow.Author.Tests.{ltb-true, leb-true, eqb-true, lt-ltb, le-leb, eq-eqb}
use Rattle.alf_spec.proofs.Tests.{both, never, same_test, one_of}
use Rattle.alf_lists.specs.Regions.{between, in_rect}

-- a case by an order
pub order : (a b : ℕ) → (a < b) ⊎ (b ≤ a)
order a b = elim (dec_lt a b) [ yes l ↦ inl l | no n ↦ inr (omega arith) ]

-- ---- runs

pub in_run : (f n k : ℕ) → (f ≤ k) × (k < f + n) → between f n k ≡ true
unfolding between
in_run f n k h = simp (le-leb f k h.0) (lt-ltb k (f + n) h.1)

pub run_facts : (f n k : ℕ) → between f n k ≡ true → (f ≤ k) × (k < f + n)
unfolding between
run_facts f n k t = let h = both (leb f k) (ltb k (f + n)) t in (leb-true f k h.0, ltb-true k (f + n) h.1)

pub run_none : (f k : ℕ) → between f 0 k ≡ false
run_none f k = never (between f 0 k) (λ t. let h = run_facts f 0 k t in omega arith)

-- one place more
pub run_more : (f i k : ℕ) → between f (i + 1) k ≡ (between f i k || eqb (f + i) k)
run_more f i k =
    one_of (between f (i + 1) k) (between f i k) (eqb (f + i) k)
    (λ t. let h = run_facts f i k t in in_run f (i + 1) k (omega arith))
    (λ t. let e = eqb-true (f + i) k t in in_run f (i + 1) k (omega arith))
    (λ t.
    let h = run_facts f (i + 1) k t in
    ⊎_elim (λ l. inl (in_run f i k (omega arith))) (λ l. inr (eq-eqb (f + i) k (omega arith))) (order k (f + i)))

-- one place more of a run from 0 on, where code has no sum
pub run_next : (i k : ℕ) → between 0 (i + 1) k ≡ (between 0 i k || eqb i k)
run_next i k = rw zero-add at (run_more 0 i k)

-- a run is two runs, one after the other
pub run_join : (f n g a h b : ℕ) → (f ≡ g) × (g + a ≡ h) × (f + n ≡ h + b) → (k : ℕ) → between f n k ≡ (between g a k || between h b k)
run_join f n g a h b q k =
    one_of (between f n k) (between g a k) (between h b k)
    (λ t. let z = run_facts g a k t in in_run f n k (omega arith))
    (λ t. let z = run_facts h b k t in in_run f n k (omega arith))
    (λ t.
    let z = run_facts f n k t in
    ⊎_elim (λ l. inl (in_run g a k (omega arith))) (λ l. inr (in_run h b k (omega arith))) (order k h))

-- ---- rectangles

-- the place k lies in the columns from x to x' and the rows from y to y'
abbrev pub InRect : ℕ → ℕ → ℕ → ℕ → ℕ → ℕ → Type 0
InRect columns x x' y y' k = (x ≤ k % columns) × (k % columns < x') × (y ≤ k / columns) × (k / columns < y')

module _ (columns x x' y y' k : ℕ) where
  pub in_rect_lem : InRect columns x x' y y' k → in_rect columns x x' y y' k ≡ true
  unfolding in_rect
  in_rect_lem h =
      simp (le-leb x (k % columns) h.0, lt-ltb (k % columns) x' h.1)
      (simp (le-leb y (k / columns) h.2) (lt-ltb (k / columns) y' h.3))

  pub rect_facts : in_rect columns x x' y y' k ≡ true → InRect columns x x' y y' k
  unfolding in_rect
  rect_facts t =
      let parts = both (leb x (k % columns) && ltb (k % columns) x') (leb y (k / columns) && ltb (k / columns) y') t in
      let across = both (leb x (k % columns)) (ltb (k % columns) x') parts.0 in
      let down = both (leb y (k / columns)) (ltb (k / columns) y') parts.1 in
      (leb-true _ _ across.0, ltb-true _ _ across.1, leb-true _ _ down.0, ltb-true _ _ down.1)

-- no column, or no row
pub rect_none : (columns x x' y y' k : ℕ) → (x' ≤ x) ⊎ (y' ≤ y) → in_rect columns x x' y y' k ≡ false
rect_none columns x x' y y' k (inl e) = never _ (λ t. let h = rect_facts columns x x' y y' k t in omega arith)
rect_none columns x x' y y' k (inr e) = never _ (λ t. let h = rect_facts columns x x' y y' k t in omega arith)

-- side by side: a rectangle is split at the column m
pub rect_beside : (columns x m x' y y' : ℕ) → x ≤ m → m ≤ x' → (k : ℕ)
    → in_rect columns x x' y y' k ≡ (in_rect columns x m y y' k || in_rect columns m x' y y' k)
rect_beside columns x m x' y y' a b k =
    one_of (in_rect columns x x' y y' k) (in_rect columns x m y y' k) (in_rect columns m x' y y' k)
    (λ t. let h = rect_facts columns x m y y' k t in in_rect_lem columns x x' y y' k (omega arith))
    (λ t. let h = rect_facts columns m x' y y' k t in in_rect_lem columns x x' y y' k (omega arith))
    (λ t.
    let h = rect_facts columns x x' y y' k t in
    ⊎_elim (λ l. inl (in_rect_lem columns x m y y' k (omega arith))) (λ l. inr (in_rect_lem columns m x' y y' k (omega arith)))
    (order (k % columns) m))

-- one above the other: it is split at the row m
pub rect_stacked : (columns x x' y m y' : ℕ) → y ≤ m → m ≤ y' → (k : ℕ)
    → in_rect columns x x' y y' k ≡ (in_rect columns x x' y m k || in_rect columns x x' m y' k)
rect_stacked columns x x' y m y' a b k =
    one_of (in_rect columns x x' y y' k) (in_rect columns x x' y m k) (in_rect columns x x' m y' k)
    (λ t. let h = rect_facts columns x x' y m k t in in_rect_lem columns x x' y y' k (omega arith))
    (λ t. let h = rect_facts columns x x' m y' k t in in_rect_lem columns x x' y y' k (omega arith))
    (λ t.
    let h = rect_facts columns x x' y y' k t in
    ⊎_elim (λ l. inl (in_rect_lem columns x x' y m k (omega arith))) (λ l. inr (in_rect_lem columns x x' m y' k (omega arith)))
    (order (k / columns) m))

-- a place of row y, and its column
pub row_of : (columns y k : ℕ) → y * columns ≤ k → k < y * columns + columns → (k / columns ≡ y) × (y * columns + k % columns ≡ k)
row_of columns y k l m =
    let r : ℕ = k - y * columns in
    let e : y * columns + r ≡ k = omega arith in
    let s : r < columns = omega arith in
    (rw (← e) (digits_div y s), rw (← e) (ap (λ (z : ℕ). y * columns + z) (digits_mod y s)))

-- row y is in a list that has room for the rows up to y'
pub row_room : (y y' columns n : ℕ) → y < y' → y' * columns ≤ n → y * columns + columns ≤ n
row_room y y' columns n h room = let z = mul-le-mul_right columns h in omega arith

-- a rectangle of one row is a run
rect_row : (columns x n y : ℕ) → x + n ≤ columns → (k : ℕ) → in_rect columns x (x + n) y (y + 1) k ≡ between (y * columns + x) n k
rect_row columns x n y fits k =
    same_test (in_rect columns x (x + n) y (y + 1) k) (between (y * columns + x) n k)
    (λ t.
    let h = rect_facts columns x (x + n) y (y + 1) k t in
    let e : k / columns ≡ y = omega arith in
    in_run (y * columns + x) n k (omega (arith, rw e at (div-add-mod' k columns))))
    (λ t.
    let h = run_facts (y * columns + x) n k t in
    let e = row_of columns y k (omega arith) (omega arith) in
    in_rect_lem columns x (x + n) y (y + 1) k (omega arith))

-- one row more
pub rect_more : (columns x n y y' : ℕ) → x + n ≤ columns → y ≤ y' → (k : ℕ)
    → in_rect columns x (x + n) y (y' + 1) k ≡ (in_rect columns x (x + n) y y' k || between (y' * columns + x) n k)
rect_more columns x n y y' fits h k = rw (← (rect_row columns x n y' fits k))
    (rect_stacked columns x (x + n) y y' (y' + 1) h (omega arith) k)
