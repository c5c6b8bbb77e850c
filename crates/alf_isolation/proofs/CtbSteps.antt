-- The isolation test of a CTB by its sides, as the code has it, is that of the CTB's blocks. Assumes nothing.
use mathlib.Core.Path.{◌≡◌, refl, sym, ◌∙◌, ap}
use mathlib.Core.Bool.{Bool, true, false, not, ◌&&◌, ◌||◌}
use mathlib.Core.List.{List}
use Prim.Native.Nat.{ℕ, zero, suc, pred, ◌+◌, ◌-◌, ◌*◌, ◌/◌, ◌%◌, ◌≤◌, ◌<◌}
use native.Mathlib.Nat.{mul-one, div-eq_of_lt-le}
use native.Mathlib.Omega.{arith}
use lib.Dec.{eqb}
use borrow.Author.Tests.{eq-eqb}
use Rattle.alf_spec.specs.declared.Ctb.{Ctb}
use Rattle.alf_spec.specs.declared.Sides.{Sides}
use Rattle.alf_spec.specs.Lists.{implies}
use Rattle.alf_spec.specs.Input.{Layout}
use Rattle.alf_spec.specs.Geometry.{Side, before, after, same_side, next, ctb_size, plane_of, luma_plane, block_plane, ctb_at, ctb_columns}
use Rattle.alf_spec.specs.Geometry.{ctb_rows}
use Rattle.alf_spec.specs.Boundary.{disables, slice_of, slice_disables, step_cause, beside_ctb, stacked_ctb, column_side, column_disabled, row_side}
use Rattle.alf_spec.specs.Boundary.{row_disabled, corner_disabled}
use Rattle.alf_spec.specs.Isolation.{open_step, column_step, row_step, diagonal_step}
use Rattle.alf_spec.proofs.Tests.{both, all_same}
use Rattle.alf_spec.proofs.Accepted.{AcceptedLayout}
use Rattle.alf_spec.proofs.Causes.{not_disabled}
use Rattle.alf_spec.proofs.Axes.{regular_columns, regular_rows}
use Rattle.alf_isolation.specs.Blocks.{edge, block_inside, block_stays, block_passes, blocks_in, ctb_passes}
use Rattle.alf_boundary.specs.Tables.{SidesOf}
use Rattle.alf_isolation.specs.declared.steps.BlockSides.{BlockSides}
use Rattle.alf_isolation.specs.Steps.{step_open, row_sides, block_sides, inside_at, neighbours_inside, blocks_along, block_test, row_test}
use Rattle.alf_isolation.specs.Steps.{ctb_test}
use Rattle.alf_isolation.proofs.AxisSteps.{Crossing, stays, crosses, boundary, block_step, block_crossing, block_low}
use Rattle.alf_isolation.proofs.CtbOrder.{block_below}

-- ---- corners

-- a CTB is of its own slice
own_slice : (l : Layout) (c : Ctb) → slice_disables l c c ≡ false
unfolding slice_disables
own_slice l c = simp (eq-eqb (slice_of l c) (slice_of l c) refl)

-- the CTB across a side is of the same slice, or the slice switch is on
one_slice : (l : Layout) (c n : Ctb) → disables (step_cause l c n) ≡ false → slice_disables l c n ≡ false
one_slice l c n e = (not_disabled l c n e).1

-- the slices count where the step crosses a CTB's corner: a side that is crossed is not disabled, and then not by slices
corner_slices : (l : Layout) (c : Ctb) (d : Side) {q r : ℕ} {t u : Bool}
    → Crossing (ctb_columns l) (column_disabled l c) d c.column q t → Crossing (ctb_rows l) (row_disabled l c) d c.row r u
    → slice_disables l c (record { column = q; row = r }) ≡ (t && (u && corner_disabled l c d))
unfolding column_side row_side corner_disabled
corner_slices l c d stays stays = own_slice l c
corner_slices l c d stays (crosses k off) = one_slice l c (stacked_ctb d c) (simp k at off)
corner_slices l c d (crosses h off) stays = one_slice l c (beside_ctb d c) (simp h at off)
corner_slices l c d (crosses h off) (crosses k off') = simp (h, k)

-- ---- the steps out of a block

same_side_lem : (d : Side) → same_side d d ≡ true
same_side_lem before = refl
same_side_lem after = refl

-- the CTB of a luma sample
luma-ctb : (l : Layout) (x y : ℕ) → ctb_at (luma_plane l) x y ≡ record { column = x / ctb_size l.picture; row = y / ctb_size l.picture }
unfolding plane_of
luma-ctb l x y = simp mul-one

-- when a diagonal step is not open: up-left and down-right, where slices may disable it
not_all : (a b t u : Bool) → (a ≡ true → b ≡ true → t ≡ u) → not (a && (b && not t)) ≡ (not a || (not b || u))
not_all false b t u f = refl
not_all true false t u f = refl
not_all true true true u f = f refl refl
not_all true true false u f = f refl refl

-- and up-right and down-left, where they may not
not_both : (a b : Bool) → not (a && (b && true)) ≡ (not a || not b)
not_both false b = refl
not_both true false = refl
not_both true true = refl

-- a step that is not open leads nowhere; an open one leads inside, by either way to say so
step_inside : {flag : Bool} (step a b : Bool) → flag ≡ not step → (step ≡ true → a ≡ b) → (flag || a) ≡ implies step b
step_inside true a b e f = rw e (f refl)
step_inside false a b e f = rw e

-- ---- the indices of the blocks around block x, y

row_above : (columns y : ℕ) → 0 < 8 * y → pred y * columns + columns ≡ y * columns
row_above columns zero h = absurd (omega arith)
row_above columns (suc y) h = omega arith

module _ (columns x y : ℕ) (h : x < columns) where
  index_left : 0 < 8 * x → y * columns + x - 1 ≡ y * columns + pred x
  index_left l = omega arith

  index_right : y * columns + x + 1 ≡ y * columns + suc x
  index_right = omega arith

  index_top : 0 < 8 * y → y * columns + x - columns ≡ pred y * columns + x
  index_top t = omega (arith, row_above columns y t)

  index_bottom : y * columns + x + columns ≡ suc y * columns + x
  index_bottom = omega arith

  index_upper_left : (0 < 8 * x) × (0 < 8 * y) → y * columns + x - (columns + 1) ≡ pred y * columns + pred x
  index_upper_left p = omega (arith, row_above columns y p.1)

  index_lower_left : 0 < 8 * x → y * columns + x + (columns - 1) ≡ suc y * columns + pred x
  index_lower_left l = omega arith

  index_upper_right : 0 < 8 * y → y * columns + x - (columns - 1) ≡ pred y * columns + suc x
  index_upper_right t = omega (arith, row_above columns y t)

  index_lower_right : y * columns + x + (columns + 1) ≡ suc y * columns + suc x
  index_lower_right = omega arith

-- the steps out of the block x, y, which lies in the CTB c
module _ (l : Layout) (ok : AcceptedLayout l) (c : Ctb) (x y : ℕ)
    (in_column : (d : Side) → edge d x / ctb_size l.picture ≡ c.column) (in_row : (e : Side)
    → edge e y / ctb_size l.picture ≡ c.row) where
  own_ctb : (d e : Side) → ctb_at (luma_plane l) (edge d x) (edge e y) ≡ c
  own_ctb d e = luma-ctb l (edge d x) (edge e y) ∙ rw (in_column d, in_row e)

  -- its sides are those of c
  column_open_lem : (d e : Side) → column_step l (edge d x) (edge e y) d ≡ open_step (luma_plane l).columns (column_disabled l c) d (edge d x)
  unfolding column_step
  column_open_lem d e = ap (λ (n : Ctb). open_step (luma_plane l).columns (column_disabled l n) d (edge d x)) (own_ctb d e)

  row_open : (d e : Side) → row_step l (edge d x) (edge e y) e ≡ open_step (luma_plane l).rows (row_disabled l c) e (edge e y)
  unfolding row_step
  row_open d e = ap (λ (n : Ctb). open_step (luma_plane l).rows (row_disabled l n) e (edge e y)) (own_ctb d e)

  -- each step is known by the boundary that it crosses
  column_step_lem : (d e : Side) → column_step l (edge d x) (edge e y) d
      ≡ step_open l.picture.width (ctb_size l.picture) l.virtual_columns (column_disabled l c d) (boundary d x)
  unfolding plane_of
  column_step_lem d e = column_open_lem d e ∙ block_step (luma_plane l).columns (regular_columns l ok 1 1 4) (column_disabled l c) d x

  row_step_lem : (d e : Side) → row_step l (edge d x) (edge e y) e
      ≡ step_open l.picture.height (ctb_size l.picture) l.virtual_rows (row_disabled l c e) (boundary e y)
  unfolding plane_of
  row_step_lem d e = row_open d e ∙ block_step (luma_plane l).rows (regular_rows l ok 1 1 4) (row_disabled l c) e y

  -- the slices, where both sides at the corner are crossed
  corner_test : Side → Bool
  corner_test d = eqb (boundary d x % ctb_size l.picture) 0 && (eqb (boundary d y % ctb_size l.picture) 0 && corner_disabled l c d)

  corner_slice : (d : Side) → column_step l (edge d x) (edge d y) d ≡ true → row_step l (edge d x) (edge d y) d ≡ true
      → (same_side d d && slice_disables l (ctb_at (luma_plane l) (edge d x) (edge d y))
      (ctb_at (luma_plane l) (next d (edge d x)) (next d (edge d y))))
      ≡ corner_test d
  unfolding corner_test plane_of
  corner_slice d o p =
      (λ t. same_side_lem d t && slice_disables l (own_ctb d d t) (luma-ctb l (next d (edge d x)) (next d (edge d y)) t))
      ∙ corner_slices l c d
      (block_crossing (luma_plane l).columns (regular_columns l ok 1 1 4) (column_disabled l c) d x (in_column d) (sym (column_open_lem d d) ∙ o))
      (block_crossing (luma_plane l).rows (regular_rows l ok 1 1 4) (row_disabled l c) d y (in_row d) (sym (row_open d d) ∙ p))

  -- the steps up-left and down-right are closed by either side step, or by the slices at the corner
  corner_step : (d : Side) → not (diagonal_step l (edge d x) (edge d y) d d)
      ≡ (not (column_step l (edge d x) (edge d y) d) || (not (row_step l (edge d x) (edge d y) d) || corner_test d))
  unfolding diagonal_step
  corner_step d = not_all (column_step l (edge d x) (edge d y) d) (row_step l (edge d x) (edge d y) d) _ (corner_test d) (corner_slice d)

  -- an open step crosses a boundary after the first
  column-low : (d e : Side) → column_step l (edge d x) (edge e y) d ≡ true → 0 < boundary d x
  column-low d e o = block_low (luma_plane l).columns (regular_columns l ok 1 1 4) (column_disabled l c) d x (sym (column_open_lem d e) ∙ o)

  row_low : (d e : Side) → row_step l (edge d x) (edge e y) e ≡ true → 0 < boundary e y
  row_low d e o = block_low (luma_plane l).rows (regular_rows l ok 1 1 4) (row_disabled l c) e y (sym (row_open d e) ∙ o)

  diagonal-low : (d e : Side) → diagonal_step l (edge d x) (edge e y) d e ≡ true → (0 < boundary d x) × (0 < boundary e y)
  unfolding diagonal_step
  diagonal-low d e o =
      let p = both (column_step l (edge d x) (edge e y) d) _ o in
      (column-low d e p.0, row_low d e (both (row_step l (edge d x) (edge e y) e) _ p.1).0)

  -- ---- the sides of the block, from those of the CTB
  module _ (s : Sides) (sides : SidesOf l c s) where
    abbrev here : BlockSides
    here =
        block_sides l.picture.width (ctb_size l.picture) l.virtual_columns
        (row_sides l.picture.height (ctb_size l.picture) l.virtual_rows s y) x

    left : (e : Side) → here.left ≡ not (column_step l (edge before x) (edge e y) before)
    unfolding block_sides row_sides
    left e = rw sides.left (ap not (sym (column_step_lem before e)))

    right : (e : Side) → here.right ≡ not (column_step l (edge after x) (edge e y) after)
    unfolding block_sides row_sides
    right e = rw sides.right (ap not (sym (column_step_lem after e)))

    top : (d : Side) → here.top ≡ not (row_step l (edge d x) (edge before y) before)
    unfolding block_sides row_sides
    top d = rw sides.top (ap not (sym (row_step_lem d before)))

    bottom : (d : Side) → here.bottom ≡ not (row_step l (edge d x) (edge after y) after)
    unfolding block_sides row_sides
    bottom d = rw sides.bottom (ap not (sym (row_step_lem d after)))

    upper_left : here.upper_left ≡ corner_test before
    unfolding block_sides row_sides corner_test
    upper_left = rw sides.upper_left

    lower_right : here.lower_right ≡ corner_test after
    unfolding block_sides row_sides corner_test
    lower_right = rw sides.lower_right

    upper_left_lem : (here.left || (here.top || here.upper_left)) ≡ not (diagonal_step l (edge before x) (edge before y) before before)
    upper_left_lem = (λ t. left before t || (top before t || upper_left t)) ∙ sym (corner_step before)

    lower_right_lem : (here.right || (here.bottom || here.lower_right)) ≡ not (diagonal_step l (edge after x) (edge after y) after after)
    lower_right_lem = (λ t. right after t || (bottom after t || lower_right t)) ∙ sym (corner_step after)

    lower_left : (here.left || here.bottom) ≡ not (diagonal_step l (edge before x) (edge after y) before after)
    unfolding diagonal_step
    lower_left =
        (λ t. left after t || bottom before t)
        ∙ sym (not_both (column_step l (edge before x) (edge after y) before) (row_step l (edge before x) (edge after y) after))

    upper_right : (here.right || here.top) ≡ not (diagonal_step l (edge after x) (edge before y) after before)
    unfolding diagonal_step
    upper_right =
        (λ t. right before t || top after t)
        ∙ sym (not_both (column_step l (edge after x) (edge before y) after) (row_step l (edge after x) (edge before y) before))

    module _ (region : List ℕ) (inside : x < l.picture.width / 8) where
      abbrev at : ℕ → Bool
      at k = inside_at region k

      -- the code's test of the eight steps
      block_stays_lem : neighbours_inside region (l.picture.width / 8) (y * (l.picture.width / 8) + x) here ≡ block_stays l region x y
      unfolding neighbours_inside block_stays block_inside plane_of
      block_stays_lem =
          λ t. (step_inside _ _ _ (left before) (λ o. ap at (index_left _ x y inside (column-low before before o))) t
          && step_inside (column_step l (edge after x) (edge before y) after) _ _ (right before) (λ o. ap at (index_right _ x y inside)) t)
          && ((step_inside _ _ _ (top before) (λ o. ap at (index_top _ x y inside (row_low before before o))) t
          && step_inside (row_step l (edge before x) (edge after y) after) _ _ (bottom before) (λ o. ap at (index_bottom _ x y inside)) t)
          && ((step_inside _ _ _ upper_left_lem (λ o. ap at (index_upper_left _ x y inside (diagonal-low before before o))) t
          && step_inside _ _ _ lower_left (λ o. ap at (index_lower_left _ x y inside (diagonal-low before after o).0)) t)
          && (step_inside _ _ _ upper_right (λ o. ap at (index_upper_right _ x y inside (diagonal-low after before o).1)) t
          && step_inside (diagonal_step l (edge after x) (edge after y) after after) _ _ lower_right_lem
          (λ o. ap at (index_lower_right _ x y inside)) t)))

      -- the code's test of the block
      block_test_lem : block_test l.picture.width (ctb_size l.picture) l.virtual_columns region (y * (l.picture.width / 8))
          (row_sides l.picture.height (ctb_size l.picture) l.virtual_rows s y) x ≡ block_passes l region x y
      unfolding block_test block_passes block_inside plane_of
      block_test_lem = ap (implies (at (y * (l.picture.width / 8) + x))) block_stays_lem

-- ---- the blocks of a CTB

-- both ends of block i of the CTB at place q lie in that CTB
edge-ctb : (ctb q i : ℕ) → ctb % 8 ≡ 0 → i < ctb / 8 → (d : Side) → edge d (q * (ctb / 8) + i) / ctb ≡ q
edge-ctb ctb q i ctb8 h d = div-eq_of_lt-le ctb (low d) (high d)
  where
    whole : q * (8 * (ctb / 8)) ≡ q * ctb
    whole = ap (λ (n : ℕ). q * n) (omega arith)

    low : (d : Side) → q * ctb ≤ edge d (q * (ctb / 8) + i)
    low before = omega (arith, whole)
    low after = omega (arith, whole)

    high : (d : Side) → edge d (q * (ctb / 8) + i) < (q + 1) * ctb
    high before = omega (arith, whole)
    high after = omega (arith, whole)

-- the code's test of a CTB is that of its blocks
pub ctb_by_sides : (l : Layout) → AcceptedLayout l → (region : List ℕ) (c : Ctb) (s : Sides) → SidesOf l c s
    → ctb_test l.picture (ctb_size l.picture) l.virtual_columns l.virtual_rows region c s ≡ ctb_passes l region c
unfolding plane_of ctb_test row_test ctb_passes blocks_in blocks_along
ctb_by_sides l ok region c s sides =
    let ctb8 = (regular_columns l ok 1 1 4).ctb8 in
    all_same _ (λ j row. all_same _ (λ i column.
    block_test_lem l ok c _ _ (edge-ctb _ c.column i ctb8 (omega arith)) (edge-ctb _ c.row j ctb8 (omega arith)) s sides region
    (block_below (block_plane l).columns c.column i column)))
