-- The rules for the four CTBs round a corner: where a CTB, the one beside it and the one above or below it have one number, so has the one
-- across the corner. Assumes nothing.
use mathlib.Core.Path.{◌≡◌, refl, sym}
use mathlib.Core.Bool.{Bool, true, not, false≢true}
use mathlib.Core.List.{List}
use Prim.Native.Nat.{ℕ, zero, suc, ◌<◌}
use native.Mathlib.Nat.{add-suc, suc-mul}
use native.Mathlib.Numerals.{add-one}
use native.Mathlib.Omega.{arith}
use lib.Dec.{eqb}
use lib.ListN.{get_or}
use borrow.Author.Tests.{eqb-true, eq-eqb, not-true, not-false}
use Rattle.alf_spec.specs.Input.{Layout}
use Rattle.alf_spec.specs.Geometry.{Side, before, after, same_side, next, has_next, ctb_columns, ctb_rows, address}
use Rattle.alf_spec.specs.Faults.{odd_one_out, slice_corner, subpic_corner, corner_at, corners_in_row, corners_valid}
use Rattle.alf_spec.proofs.Tests.{both, all_at}
use Rattle.alf_spec.proofs.IsolatedRegions.Steps.{next-gap}

-- of n places in a row, q and the one next to it are the places x and x + 1
data Neighbours (n : ℕ) : Side → ℕ → Type 0 where
  first : (x : ℕ) → suc x < n → Neighbours n after x
  second : (x : ℕ) → suc x < n → Neighbours n before (suc x)

neighbours : (n : ℕ) (d : Side) (q : ℕ) → has_next n d q ≡ true → Neighbours n d q
neighbours n before zero h = absurd (false≢true h)
neighbours n before (suc x) h = second x (next-gap n before (suc x) h).1
neighbours n after x h = first x (next-gap n after x h).1

-- a rule for the four CTBs round a corner (upper left, upper right, lower left, lower right), by one of them, the one beside it, the one
-- above or below it and the one across the corner
abbrev rule_from : (ℕ → ℕ → ℕ → ℕ → Bool) → Side → Side → ℕ → ℕ → ℕ → ℕ → Bool
rule_from rule before before own beside stacked across = rule across stacked beside own
rule_from rule before after own beside stacked across = rule beside own across stacked
rule_from rule after before own beside stacked across = rule stacked across own beside
rule_from rule after after own beside stacked across = rule own beside stacked across

-- the number that a map has for the CTB at column q and row r
abbrev number_at : Layout → List ℕ → ℕ → ℕ → ℕ
number_at l map q r = get_or map (address l (record { column = q; row = r })) 0

module _ (rule : ℕ → ℕ → ℕ → ℕ → Bool) (l : Layout) (map : List ℕ) (valid : corners_valid rule l map ≡ true) where
  -- the rule at the corner whose upper left CTB is at column x and row y
  four : (x y : ℕ) → suc x < ctb_columns l → suc y < ctb_rows l
      → rule (number_at l map x y) (number_at l map (suc x) y) (number_at l map x (suc y)) (number_at l map (suc x) (suc y)) ≡ true
  unfolding corner_at corners_in_row corners_valid
  four x y column row =
      simp (add-suc, suc-mul) (simp add-one at (all_at _ _ (all_at _ _ valid y (omega arith)) x (omega arith)))

  four_from : (d e : Side) (q r : ℕ) → Neighbours (ctb_columns l) d q → Neighbours (ctb_rows l) e r
      → rule_from rule d e (number_at l map q r) (number_at l map (next d q) r) (number_at l map q (next e r))
      (number_at l map (next d q) (next e r)) ≡ true
  four_from _ _ _ _ (second x h) (second y k) = four x y h k
  four_from _ _ _ _ (second x h) (first y k) = four x y h k
  four_from _ _ _ _ (first x h) (second y k) = four x y h k
  four_from _ _ _ _ (first x h) (first y k) = four x y h k

  -- where three of the CTBs have the number n
  pub three_alike : (n : ℕ) (d e : Side) (q r : ℕ) → has_next (ctb_columns l) d q ≡ true → has_next (ctb_rows l) e r ≡ true
      → eqb (number_at l map q r) n ≡ true → eqb (number_at l map (next d q) r) n ≡ true → eqb (number_at l map q (next e r)) n ≡ true
      → rule_from rule d e n n n (number_at l map (next d q) (next e r)) ≡ true
  three_alike n d e q r h k own beside stacked =
      rw (eqb-true _ n own, eqb-true _ n beside, eqb-true _ n stacked) at (four_from d e q r (neighbours _ d q h) (neighbours _ e r k))

-- not three alike and the fourth different
not_odd : (n m : ℕ) → not (odd_one_out n n n m) ≡ true → eqb m n ≡ true
not_odd n m h = eq-eqb m n (sym (eqb-true n m (not-false (eqb n m) (not-true (not (eqb n m)) (simp (eq-eqb n n refl) at h)))))

-- the slice rule leaves up-left and down-right to the test of the diagonal step
pub slice_corner_lem : (d e : Side) (n m : ℕ) → rule_from slice_corner d e n n n m ≡ true → (same_side d e ≡ true → eqb m n ≡ true)
    → eqb m n ≡ true
slice_corner_lem before before n m h same = same refl
slice_corner_lem before after n m h same = not_odd n m (both (not (odd_one_out n m n n)) _ h).1
slice_corner_lem after before n m h same = not_odd n m (both (not (odd_one_out n n n m)) _ h).0
slice_corner_lem after after n m h same = same refl

subpic_rules : (a b c d : ℕ) → subpic_corner a b c d ≡ true
    → (not (odd_one_out a b c d) ≡ true) × (not (odd_one_out a b d c) ≡ true) × (not (odd_one_out a c d b) ≡ true)
    × (not (odd_one_out b c d a) ≡ true)
subpic_rules a b c d h =
    let p = both (not (odd_one_out a b c d)) _ h in
    let q = both (not (odd_one_out a b d c)) _ p.1 in
    let r = both (not (odd_one_out a c d b)) _ q.1 in
    (p.0, q.0, r.0, r.1)

pub subpic_corner_lem : (d e : Side) (n m : ℕ) → rule_from subpic_corner d e n n n m ≡ true → eqb m n ≡ true
subpic_corner_lem before before n m h = not_odd n m (subpic_rules m n n n h).3
subpic_corner_lem before after n m h = not_odd n m (subpic_rules n n m n h).1
subpic_corner_lem after before n m h = not_odd n m (subpic_rules n m n n h).2
subpic_corner_lem after after n m h = not_odd n m (subpic_rules n n n m h).0
