-- A region of whole CTBs is isolated where neither a side that is not disabled nor a corner leads out of it. Assumes nothing.
use mathlib.Core.Path.{◌≡◌, refl, sym, ◌∙◌}
use mathlib.Core.Logic.{by_cases}
use mathlib.Core.Bool.{Bool, true, false, not, ◌&&◌, ◌||◌, cond}
use Prim.Native.Nat.{ℕ, ◌*◌, ◌/◌, ◌<◌}
use native.Mathlib.Nat.{mul-one, div-div-eq-div-mul}
use native.Mathlib.Decide.{ℕ_discrete}
use native.Mathlib.Omega.{arith}
use lib.Dec.{eqb}
use borrow.Author.Tests.{ne_eqb, not-true}
use Rattle.alf_spec.specs.declared.Ctb.{Ctb}
use Rattle.alf_spec.specs.Input.{Layout}
use Rattle.alf_spec.specs.Geometry.{Side, same_side, next, gap, has_next, Axis, plane_of, luma_plane, block_plane, luma_position, ctb_count}
use Rattle.alf_spec.specs.Geometry.{ctb_at, ctb_columns, ctb_rows}
use Rattle.alf_spec.specs.Boundary.{disables, slice_disables, step_cause, beside_ctb, stacked_ctb, column_side, column_disabled, row_side}
use Rattle.alf_spec.specs.Boundary.{row_disabled}
use Rattle.alf_spec.specs.Isolation.{open_step, column_step, row_step, diagonal_step, inside, stays_inside, isolated, region_of}
use Rattle.alf_spec.proofs.Tests.{both, imply, at_all}
use Rattle.alf_spec.proofs.Lists.{tabulate-at}
use Rattle.alf_spec.proofs.Planes.{index_below, index_column, index_row}
use Rattle.alf_spec.proofs.Accepted.{AcceptedLayout}
use Rattle.alf_spec.proofs.Axes.{Regular, regular_columns, regular_rows}
use Rattle.alf_spec.proofs.IsolatedRegions.EightSteps.{test_eight}
use Rattle.alf_spec.proofs.IsolatedRegions.Steps.{next-below, opened, next-ctb}

-- ---- along one axis

-- from CTB q of n in a row to q itself, or to the CTB next to it over a side that is not disabled
data Move (n : ℕ) (disabled : Side → Bool) (d : Side) (q : ℕ) : ℕ → Type 0 where
  stays : Move n disabled d q q
  crosses : has_next n d q ≡ true → disabled d ≡ false → Move n disabled d q (next d q)

module _ (a : Axis) (ok : Regular a) where
  move : (disabled : Side → Bool) (d : Side) (x : ℕ) → 0 < gap d x → gap d x < a.size
      → (eqb (x / a.ctb) (next d x / a.ctb) || not (disabled d)) ≡ true → Move (ctb_count a) disabled d (x / a.ctb) (next d x / a.ctb)
  move disabled d x low high side =
      by_cases (ℕ_discrete (x / a.ctb) (next d x / a.ctb)) (λ (e : x / a.ctb ≡ next d x / a.ctb). rw (← e) stays) (λ other.
      let c = next-ctb a ok d x low high other in
      rw c.0 (crosses c.1 (not-true (disabled d) (simp (ne_eqb (x / a.ctb) (next d x / a.ctb) other) at side))))

  module _ (luma : a.ratio ≡ 1) where
    -- an open step ends in the picture, in the same CTB or over a side that is not disabled
    open_move : (disabled : Side → Bool) (d : Side) (x : ℕ) → open_step a disabled d x ≡ true
        → (next d x < a.size) × Move (ctb_count a) disabled d (luma_position a x / a.ctb) (luma_position a (next d x) / a.ctb)
    open_move disabled d x o =
        let p = opened a disabled d x o in
        (next-below a.size d x p.1, simp (luma, mul-one) (move disabled d x p.0 p.1 p.2))

    -- CTBs begin at multiples of 8: the samples of an 8 by 8 block lie in one CTB
    pub block_ctb : (x : ℕ) → x / 8 * 8 / a.ctb ≡ luma_position a x / a.ctb
    block_ctb x =
        let whole : 8 * (a.ctb / 8) ≡ a.ctb = omega (arith, ok.ctb8) in
        let block : x / 8 * 8 / 8 ≡ x / 8 = omega arith in
        simp (luma, mul-one) (rw (← whole) (simp (← div-div-eq-div-mul, block)))

-- ---- a region of whole CTBs

-- what a region has for a CTB is 1 exactly where the test passes
bit : (t : Bool) → eqb (cond t 1 0) 1 ≡ t
bit true = refl
bit false = refl

module _ (l : Layout) (ok : AcceptedLayout l) (P : Ctb → Bool) where
  -- a sample lies inside exactly when its CTB passes the test
  inside_region : (x y : ℕ) → x < l.picture.width → y < l.picture.height → inside l (region_of l P) x y ≡ P (ctb_at (luma_plane l) x y)
  unfolding plane_of inside region_of
  inside_region x y column row =
      let columns = regular_columns l ok 1 1 4 in
      let in_column : x / 8 < l.picture.width / 8 = omega (arith, columns.size8) in
      let in_row : y / 8 < l.picture.height / 8 = omega (arith, (regular_rows l ok 1 1 4).size8) in
      let in_index = index_below (block_plane l) (x / 8) (y / 8) in_column in_row in
      simp (tabulate-at, bit, index_column (block_plane l), index_row (block_plane l), block_ctb (luma_plane l).columns columns refl)

-- ---- steps from CTB to CTB

-- the CTB across a corner
abbrev pub corner_ctb : Side → Side → Ctb → Ctb
corner_ctb d e c = record { column = next d c.column; row = next e c.row }

-- the CTBs that pass the test are not left over a side that is not disabled and, where the CTBs beside and above or below also pass, not
-- over the corner between those two
pub record Kept (l : Layout) (P : Ctb → Bool) : Type 0 where
  pub side : (c n : Ctb) → disables (step_cause l c n) ≡ false → P c ≡ true → P n ≡ true
  pub corner : (d e : Side) (c : Ctb) → has_next (ctb_columns l) d c.column ≡ true → has_next (ctb_rows l) e c.row ≡ true
      → (same_side d e && slice_disables l c (corner_ctb d e c)) ≡ false
      → P c ≡ true → P (beside_ctb d c) ≡ true → P (stacked_ctb e c) ≡ true → P (corner_ctb d e c) ≡ true

module _ (l : Layout) (P : Ctb → Bool) (kept : Kept l P) (c : Ctb) (here : P c ≡ true) where
  beside : (d : Side) (q : ℕ) → Move (ctb_columns l) (column_disabled l c) d c.column q → P (record { column = q; row = c.row }) ≡ true
  unfolding column_side
  beside d _ stays = here
  beside d _ (crosses h off) = kept.side c (beside_ctb d c) (simp h at off) here

  stacked : (e : Side) (r : ℕ) → Move (ctb_rows l) (row_disabled l c) e c.row r → P (record { column = c.column; row = r }) ≡ true
  unfolding row_side
  stacked e _ stays = here
  stacked e _ (crosses h off) = kept.side c (stacked_ctb e c) (simp h at off) here

  -- only where both parts of a diagonal step cross a side does it cross a corner
  diagonal : (d e : Side) (q r : ℕ) → Move (ctb_columns l) (column_disabled l c) d c.column q
      → Move (ctb_rows l) (row_disabled l c) e c.row r
      → (same_side d e && slice_disables l c (record { column = q; row = r })) ≡ false → P (record { column = q; row = r }) ≡ true
  diagonal d e _ r stays n slice = stacked e r n
  diagonal d e q _ (crosses h off) stays slice = beside d q (crosses h off)
  diagonal d e q r (crosses h off) (crosses k off') slice =
      kept.corner d e c h k slice here (beside d q (crosses h off)) (stacked e r (crosses k off'))

module _ (l : Layout) (ok : AcceptedLayout l) (P : Ctb → Bool) (kept : Kept l P) where
  module _ (x y : ℕ) (column : x < l.picture.width) (row : y < l.picture.height) (here : P (ctb_at (luma_plane l) x y) ≡ true) where
    abbrev own : Ctb
    own = ctb_at (luma_plane l) x y

    column_move : (d : Side) → column_step l x y d ≡ true
        → (next d x < l.picture.width) × Move (ctb_columns l) (column_disabled l own) d own.column
        (ctb_at (luma_plane l) (next d x) y).column
    unfolding plane_of column_step
    column_move d = open_move (luma_plane l).columns (regular_columns l ok 1 1 4) refl (column_disabled l own) d x

    row_move : (e : Side) → row_step l x y e ≡ true
        → (next e y < l.picture.height) × Move (ctb_rows l) (row_disabled l own) e own.row (ctb_at (luma_plane l) x (next e y)).row
    unfolding plane_of row_step
    row_move e = open_move (luma_plane l).rows (regular_rows l ok 1 1 4) refl (row_disabled l own) e y

    column-inside : (d : Side) → column_step l x y d ≡ true → inside l (region_of l P) (next d x) y ≡ true
    column-inside d o =
        let m = column_move d o in
        inside_region l ok P (next d x) y m.0 row ∙ beside l P kept own here d _ m.1

    row_inside : (e : Side) → row_step l x y e ≡ true → inside l (region_of l P) x (next e y) ≡ true
    row_inside e o =
        let m = row_move e o in
        inside_region l ok P x (next e y) column m.0 ∙ stacked l P kept own here e _ m.1

    diagonal-inside : (d e : Side) → diagonal_step l x y d e ≡ true → inside l (region_of l P) (next d x) (next e y) ≡ true
    unfolding diagonal_step
    diagonal-inside d e o =
        let p = both (column_step l x y d) _ o in
        let q = both (row_step l x y e) _ p.1 in
        let m = column_move d p.0 in
        let n = row_move e q.0 in
        inside_region l ok P (next d x) (next e y) m.0 n.0 ∙ diagonal l P kept own here d e _ _ m.1 n.1 (not-true _ q.1)

    stays_inside_lem : stays_inside l (region_of l P) x y ≡ true
    unfolding stays_inside
    stays_inside_lem =
        test_eight (column_step l x y) _ (row_step l x y) _ (diagonal_step l x y) _
        (record { column = column-inside; row = row_inside; diagonal = diagonal-inside })

  pub kept-isolated : isolated l (region_of l P) ≡ true
  unfolding isolated
  kept-isolated =
      at_all l.picture.height _ (λ y row. at_all l.picture.width _ (λ x column.
      imply (inside l (region_of l P) x y) _ (λ here. stays_inside_lem x y column row (sym (inside_region l ok P x y column row) ∙ here))))
