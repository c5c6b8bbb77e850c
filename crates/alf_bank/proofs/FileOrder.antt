-- The filters in file order, and where their numbers stand in a bank: each number of a bank belongs to one filter. Assumes nothing.
use mathlib.Core.Path.{◌≡◌, refl, sym, ◌∙◌, ap}
use mathlib.Core.Bool.{Bool, true, false, cond}
use Prim.Native.Nat.{ℕ, ◌+◌, ◌-◌, ◌*◌, ◌/◌, ◌%◌, ◌<◌, ◌≤◌}
use native.Mathlib.Omega.{arith}
use borrow.Author.Tests.{lt-ltb, le-ltb, ltb-true, ltb-false}
use lib.Dec.{ltb}
use Rattle.alf_bank.specs.declared.FilterId.{FilterId}
use Rattle.alf_bank.specs.declared.FilterShape.{FilterShape}
use Rattle.alf_bank.specs.Filters.{shape_of, count_of, order_of, filter_at, start_of}

-- ---- the filters

-- the three kinds of filters
pub data Kind : FilterId → Type 0 where
  luma : (a f : ℕ) → a < 8 → f < 25 → Kind (record { tag = 2; aps = a; component = 0; filter = f })
  chroma : (a f : ℕ) → a < 8 → f < 8 → Kind (record { tag = 3; aps = a; component = 0; filter = f })
  cross : (a c f : ℕ) → a < 8 → c < 2 → f < 4 → Kind (record { tag = 4; aps = a; component = c; filter = f })

pub kind_at : (k : ℕ) → k < 328 → Kind (filter_at k)
unfolding filter_at
kind_at k h = by_test (ltb k 200) (ltb k 264) refl refl
  where
    by_test : (s t : Bool) → ltb k 200 ≡ s → ltb k 264 ≡ t
        → Kind (cond s (record { tag = 2; aps = k / 25; component = 0; filter = k % 25 })
        (cond t (record { tag = 3; aps = (k - 200) / 8; component = 0; filter = (k - 200) % 8 })
        (record { tag = 4; aps = (k - 264) / 8; component = (k - 264) % 8 / 4; filter = (k - 264) % 4 })))
    by_test true t p q = let l = ltb-true k 200 p in luma (k / 25) (k % 25) (omega arith) (omega arith)
    by_test false true p q = let l = ltb-true k 264 q in chroma ((k - 200) / 8) ((k - 200) % 8) (omega arith) (omega arith)
    by_test false false p q = cross ((k - 264) / 8) ((k - 264) % 8 / 4) ((k - 264) % 4) (omega arith) (omega arith) (omega arith)

pub order-at : (k : ℕ) → k < 328 → order_of (filter_at k) ≡ k
unfolding filter_at order_of
order-at k h = by_test (ltb k 200) (ltb k 264) refl refl
  where
    by_test : (s t : Bool) → ltb k 200 ≡ s → ltb k 264 ≡ t → order_of (filter_at k) ≡ k
    by_test true t p q = simp p (omega arith)
    by_test false true p q = let l = ltb-false k 200 p in simp (p, q) (omega arith)
    by_test false false p q = let l = ltb-false k 264 q in simp (p, q) (omega arith)

pub order_small : {i : FilterId} → Kind i → order_of i < 328
unfolding order_of
order_small (luma a f p q) = omega arith
order_small (chroma a f p q) = omega arith
order_small (cross a c f p r q) = omega arith

pub filter_of_order : {i : FilterId} → Kind i → filter_at (order_of i) ≡ i
unfolding filter_at order_of
filter_of_order (luma a f p q) =
    let l : ltb (25 * a + f) 200 ≡ true = lt-ltb (25 * a + f) 200 (omega arith) in
    let x : (25 * a + f) / 25 ≡ a = omega arith in
    let y : (25 * a + f) % 25 ≡ f = omega arith in
    simp (l, x, y)
filter_of_order (chroma a f p q) =
    let l : ltb (200 + (8 * a + f)) 200 ≡ false = le-ltb (200 + (8 * a + f)) 200 (omega arith) in
    let m : ltb (200 + (8 * a + f)) 264 ≡ true = lt-ltb (200 + (8 * a + f)) 264 (omega arith) in
    let x : (200 + (8 * a + f) - 200) / 8 ≡ a = omega arith in
    let y : (200 + (8 * a + f) - 200) % 8 ≡ f = omega arith in
    simp (l, m, x, y)
filter_of_order (cross a c f p r q) =
    let l : ltb (264 + (8 * a + (4 * c + f))) 200 ≡ false = le-ltb (264 + (8 * a + (4 * c + f))) 200 (omega arith) in
    let m : ltb (264 + (8 * a + (4 * c + f))) 264 ≡ false = le-ltb (264 + (8 * a + (4 * c + f))) 264 (omega arith) in
    let x : (264 + (8 * a + (4 * c + f)) - 264) / 8 ≡ a = omega arith in
    let y : (264 + (8 * a + (4 * c + f)) - 264) % 8 / 4 ≡ c = omega arith in
    let z : (264 + (8 * a + (4 * c + f)) - 264) % 4 ≡ f = omega arith in
    simp (l, m, x, y, z)

-- a place in file order has one filter
pub same_filter : {i j : FilterId} → Kind i → Kind j → order_of i ≡ order_of j → i ≡ j
same_filter p q e = sym (filter_of_order p) ∙ ap filter_at e ∙ filter_of_order q

-- ---- the numbers of a filter

-- coefficients, then clips
pub data Part (s : FilterShape) : ℕ → Type 0 where
  coeff : (j : ℕ) → j < s.coeffs → Part s j
  clip : (j : ℕ) → j < s.clips → Part s (s.coeffs + j)

pub part_of : (s : FilterShape) (k : ℕ) → k < count_of s → Part s k
part_of s k h = by_test (ltb k s.coeffs) refl
  where
    by_test : (t : Bool) → ltb k s.coeffs ≡ t → Part s k
    by_test true p = coeff k (ltb-true k s.coeffs p)
    by_test false p =
        let l = ltb-false k s.coeffs p in
        let n : s.coeffs + (k - s.coeffs) ≡ k = omega arith in
        let p : Part s (s.coeffs + (k - s.coeffs)) = clip (k - s.coeffs) (omega arith) in
        rw n at p

pub start_fits : {i : FilterId} → Kind i → start_of i + count_of (shape_of i.tag) ≤ 6016
unfolding start_of shape_of
start_fits (luma a f p q) = omega arith
start_fits (chroma a f p q) = omega arith
start_fits (cross a c f p r q) = omega arith

-- ---- the filter of a number

-- the place in file order of the filter to which number x of a bank belongs
unfoldable pub owner_of : ℕ → ℕ
owner_of x =
    cond (ltb (x % 752) 600) (25 * (x / 752) + x % 752 / 24)
    (cond (ltb (x % 752) 696) (200 + (8 * (x / 752) + (x % 752 - 600) / 12)) (264 + (8 * (x / 752) + (x % 752 - 696) / 7)))

-- a filter's numbers belong to it
pub owner_in : {i : FilterId} → Kind i → (x : ℕ) → start_of i ≤ x → x < start_of i + count_of (shape_of i.tag) → owner_of x ≡ order_of i
unfolding start_of shape_of order_of owner_of
owner_in (luma a f p q) x l h =
    let d : x / 752 ≡ a = omega arith in
    let t : ltb (x % 752) 600 ≡ true = lt-ltb (x % 752) 600 (omega arith) in
    simp t (omega arith)
owner_in (chroma a f p q) x l h =
    let d : x / 752 ≡ a = omega arith in
    let s : ltb (x % 752) 600 ≡ false = le-ltb (x % 752) 600 (omega arith) in
    let t : ltb (x % 752) 696 ≡ true = lt-ltb (x % 752) 696 (omega arith) in
    simp (s, t) (omega arith)
owner_in (cross a c f p r q) x l h =
    let d : x / 752 ≡ a = omega arith in
    let s : ltb (x % 752) 600 ≡ false = le-ltb (x % 752) 600 (omega arith) in
    let t : ltb (x % 752) 696 ≡ false = le-ltb (x % 752) 696 (omega arith) in
    simp (s, t) (omega arith)

-- a filter that has number x of a bank
pub record Owner (x : ℕ) : Type 0 where
  pub id : FilterId
  pub kind : Kind id
  pub from : start_of id ≤ x
  pub upto : x < start_of id + count_of (shape_of id.tag)

owns : {x : ℕ} {i : FilterId} → Kind i → start_of i ≤ x → x < start_of i + count_of (shape_of i.tag) → Owner x
owns k l h = record { id = _; kind = k; from = l; upto = h }

-- every number has one
pub owner_at : (x : ℕ) → x < 6016 → Owner x
unfolding start_of shape_of
owner_at x h = by_test (ltb (x % 752) 600) (ltb (x % 752) 696) refl refl
  where
    by_test : (s t : Bool) → ltb (x % 752) 600 ≡ s → ltb (x % 752) 696 ≡ t → Owner x
    by_test true t p q =
        let l = ltb-true (x % 752) 600 p in
        owns (luma (x / 752) (x % 752 / 24) (omega arith) (omega arith)) (omega arith) (omega arith)
    by_test false true p q =
        let l = ltb-false (x % 752) 600 p in let m = ltb-true (x % 752) 696 q in
        owns (chroma (x / 752) ((x % 752 - 600) / 12) (omega arith) (omega arith)) (omega arith) (omega arith)
    by_test false false p q =
        let l = ltb-false (x % 752) 696 q in
        owns (cross (x / 752) ((x % 752 - 696) / 28) ((x % 752 - 696) % 28 / 7) (omega arith) (omega arith) (omega arith))
        (omega arith) (omega arith)

module _ (x : ℕ) (h : x < 6016) where
  owner_is : owner_of x ≡ order_of (owner_at x h).id
  owner_is = let o = owner_at x h in owner_in o.kind x o.from o.upto

  pub owner_small : owner_of x < 328
  owner_small = rw owner_is (order_small (owner_at x h).kind)

  -- a filter has no numbers but those that belong to it
  pub owner_out : {i : FilterId} → Kind i → owner_of x ≡ order_of i → (start_of i ≤ x) × (x < start_of i + count_of (shape_of i.tag))
  owner_out k e =
      let o = owner_at x h in
      rw (same_filter k o.kind (sym e ∙ owner_is)) (o.from, o.upto)
