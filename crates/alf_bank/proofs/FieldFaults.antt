-- What a field is that has no fault, and where a field has none. Assumes nothing.
use mathlib.Core.Path.{◌≡◌}
use mathlib.Core.Bool.{true, false, ◌&&◌, not, ◌||◌, or-false}
use mathlib.Core.List.{List}
use Prim.Native.Nat.{ℕ, ◌+◌, ◌≤◌}
use native.Mathlib.Omega.{arith}
use borrow.Author.Tests.{eqb-true, leb-true, not-true}
use lib.Dec.{eqb, leb}
use lib.ListN.{length}
use Rattle.alf_spec.specs.Faults.{unless, depth_valid}
use Rattle.alf_spec.proofs.Tests.{both, cond_three, within_bounds}
use Rattle.alf_spec.proofs.Accepted.{passed}
use Rattle.alf_bank.specs.declared.FilterShape.{FilterShape}
use Rattle.alf_bank.specs.Filters.{shape_of, size_of, id_valid, order_of}
use Rattle.alf_bank.specs.Reading.{tag_of, length_of, value_at, id_of, whole, listed, is_depth, clips_valid, zero_field, in_place, proper}
use Rattle.alf_bank.specs.Reading.{field_fault}

-- ---- how far a field reaches

-- 38, 20, 10
pub size_small : (tag : ℕ) → (10 ≤ size_of (shape_of tag)) × (size_of (shape_of tag) ≤ 38)
unfolding shape_of
size_small tag =
    cond_three (λ (s : FilterShape). (10 ≤ size_of s) × (size_of s ≤ 38)) (eqb tag 2) (eqb tag 3) (shape_of 2) (shape_of 3) (shape_of 4)
    (omega arith) (omega arith) (omega arith)

module _ (f : List ℕ) where
  pub whole_reach : whole f ≡ true → (3 ≤ length f) × (3 + length_of f ≤ length f)
  unfolding whole
  whole_reach w =
      let p = both (leb 3 (length f)) (leb (3 + length_of f) (length f)) w in
      (leb-true 3 (length f) p.0, leb-true (3 + length_of f) (length f) p.1)

  -- of tag 1: 1 byte
  pub depth-length : listed f ≡ true → is_depth f ≡ true → length_of f ≡ 1
  unfolding listed is_depth
  depth-length l e = eqb-true (length_of f) 1 (rw or-false at (rw (eqb-true (tag_of f) 1 e) at l))

  -- of another tag: 2, 3 or 4, with as many bytes as its shape says
  pub filter_length_lem : listed f ≡ true → is_depth f ≡ false
      → (2 ≤ tag_of f) × (tag_of f ≤ 4) × (length_of f ≡ size_of (shape_of (tag_of f)))
  unfolding listed is_depth
  filter_length_lem l n =
      let p = both (leb 2 (tag_of f)) (leb (tag_of f) 4 && eqb (length_of f) (size_of (shape_of (tag_of f)))) (simp n at l) in
      let q = both (leb (tag_of f) 4) (eqb (length_of f) (size_of (shape_of (tag_of f)))) p.1 in
      (leb-true 2 (tag_of f) p.0, leb-true (tag_of f) 4 q.0, eqb-true (length_of f) (size_of (shape_of (tag_of f))) q.1)

  pub has_depth : whole f ≡ true → listed f ≡ true → is_depth f ≡ true → 4 ≤ length f
  has_depth w l e = let p = whole_reach w in let q = depth-length l e in omega arith

-- ---- the number of a whole field of listed tag and length, where it passes the tests so far

module _ (f : List ℕ) (limit from : ℕ) (w : whole f ≡ true) (l : listed f ≡ true) where
  pub first_good : is_depth f ≡ true → depth_valid (value_at f 0) ≡ true → 0 ≡ field_fault true limit from f
  unfolding field_fault proper is_depth unless in_place
  first_good e d = simp (w, l, e, d)

  -- its place is judged last
  pub judged : is_depth f ≡ false → clips_valid limit f ≡ true → id_valid (id_of f) ≡ true
      → unless (in_place false from f) 18 0 ≡ field_fault false limit from f
  unfolding field_fault proper is_depth unless
  judged n v i = simp (w, l, n, v, i)

  pub good : is_depth f ≡ false → clips_valid limit f ≡ true → id_valid (id_of f) ≡ true → in_place false from f ≡ true
      → 0 ≡ field_fault false limit from f
  unfolding unless
  good n v i p = simp p at (judged n v i)

-- ---- a field with no fault

-- what a filter's field is where it has none
pub record Good (limit from : ℕ) (f : List ℕ) : Type 0 where
  pub complete : whole f ≡ true
  pub known : listed f ≡ true
  pub filter : is_depth f ≡ false
  pub clips : clips_valid limit f ≡ true
  pub leads : id_valid (id_of f) ≡ true
  pub after : from ≤ order_of (id_of f)
  pub used : zero_field f ≡ false

pub good_of : (limit from : ℕ) (f : List ℕ) → field_fault false limit from f ≡ 0 → Good limit from f
unfolding field_fault proper in_place
good_of limit from f e =
    let depth = passed _ 2 _ e in
    let clip = passed _ 10 _ depth.1 in
    let reach = passed _ 15 _ clip.1 in
    let list = passed (listed f && (is_depth f || id_valid (id_of f))) 16 _ reach.1 in
    let place = passed (not (is_depth f) && (leb from (order_of (id_of f)) && not (zero_field f))) 17 0 list.1 in
    let known = both (listed f) (is_depth f || id_valid (id_of f)) list.0 in
    let later = both (not (is_depth f)) (leb from (order_of (id_of f)) && not (zero_field f)) place.0 in
    let order = both (leb from (order_of (id_of f))) (not (zero_field f)) later.1 in
    let no_depth = not-true (is_depth f) later.0 in
    record {
      complete = reach.0;
      known = known.0;
      filter = no_depth;
      clips = simp (reach.0, known.0, no_depth) at clip.0;
      leads = simp no_depth at known.1;
      after = leb-true from (order_of (id_of f)) order.0;
      used = not-true (zero_field f) order.1;
    }

-- what the first field is where it has none
pub record GoodDepth (f : List ℕ) : Type 0 where
  pub complete : whole f ≡ true
  pub known : listed f ≡ true
  pub first : is_depth f ≡ true
  pub depth : depth_valid (value_at f 0) ≡ true

pub good_depth : (limit from : ℕ) (f : List ℕ) → field_fault true limit from f ≡ 0 → GoodDepth f
unfolding field_fault proper in_place
good_depth limit from f e =
    let depth = passed _ 2 _ e in
    let clip = passed _ 10 _ depth.1 in
    let reach = passed _ 15 _ clip.1 in
    let list = passed (listed f && (is_depth f || id_valid (id_of f))) 16 _ reach.1 in
    let first = passed (is_depth f) 17 0 list.1 in
    let known = both (listed f) (is_depth f || id_valid (id_of f)) list.0 in
    record {
      complete = reach.0;
      known = known.0;
      first = first.0;
      depth = simp (reach.0, known.0, first.0) at depth.0;
    }

pub depth_small : (f : List ℕ) (limit from : ℕ) → field_fault true limit from f ≡ 0
    → (4 ≤ length f) × (8 ≤ value_at f 0) × (value_at f 0 ≤ 12) × (length_of f ≡ 1)
depth_small f limit from e =
    let g = good_depth limit from f e in
    let b = within_bounds 8 12 (value_at f 0) g.depth in
    let h = has_depth f g.complete g.known g.first in
    let n = depth-length f g.known g.first in
    omega arith
