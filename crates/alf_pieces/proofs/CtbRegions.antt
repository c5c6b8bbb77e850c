-- The samples of a CTB, of every plane: they are a rectangle, and the CTBs of the picture, one after the other, are the whole plane, and so
-- they are written. Assumes nothing.
use mathlib.Core.Path.{◌≡◌, refl, sym, ap, ◌∙◌}
use mathlib.Core.Bool.{Bool, true, false, ◌&&◌, ◌||◌, and-true, and-false}
use mathlib.Core.Logic.{inl, inr, ⊎_elim}
use mathlib.Core.List.{List}
use Prim.Native.Nat.{ℕ, suc, ◌+◌, ◌*◌, ◌/◌, ◌%◌, ◌≤◌, ◌<◌, min}
use native.Mathlib.Nat.{mul-le-mul_right, le_of_suc-le-suc, div-add-mod'}
use native.Mathlib.Omega.{arith}
use lib.Dec.{eqb, ltb}
use lib.ListN.{length}
use borrow.Author.Tests.{ltb-true, eqb-true, lt-ltb, eq-eqb}
use Rattle.alf_spec.specs.declared.Ctb.{Ctb}
use Rattle.alf_spec.specs.declared.Grid.{Grid}
use Rattle.alf_spec.specs.Lists.{tabulate, painted}
use Rattle.alf_spec.specs.Input.{Layout}
use Rattle.alf_spec.specs.Geometry.{Axis, Plane, samples, luma_position, plane_of, plane_length, column_of, row_of, ctb_at, address, ctb_columns}
use Rattle.alf_spec.specs.Geometry.{ctb_rows, total_ctbs}
use Rattle.alf_spec.proofs.Tests.{never, same_test, one_of}
use Rattle.alf_spec.proofs.Planes.{place-column, place-row, column-below, row_below, address_below}
use Rattle.alf_spec.proofs.Accepted.{AcceptedLayout}
use Rattle.alf_spec.proofs.Axes.{Regular, lower, upper, ctb_of_lem, not_gt, regular_columns, regular_rows}
use Rattle.alf_spec.proofs.Ratios.{own_le, lt_own}
use Rattle.alf_spec.proofs.IsolatedRegions.Steps.{ctb-below}
use Rattle.alf_math.specs.Grids.{GridOf}
use Rattle.alf_math.proofs.Grids.{grid-columns, grid_total}
use Rattle.alf_lists.specs.Regions.{in_rect}
use Rattle.alf_pieces.specs.Pieces.{ctb_limit}
use Rattle.alf_pieces.specs.CtbRegions.{address_at, of_ctb, before_ctb, in_ctb_if, of_ctb_if, before_ctb_if}
use Rattle.alf_lists.proofs.Painted.{Paint, paint_is, paint_of, paint_none, paint_call, paint_same, paint_all}
use Rattle.alf_lists.proofs.Regions.{order, in_rect_lem, rect_facts}

-- a multiple of 8 is a whole number of the plane's own samples: ratios of 1, 2, 4 and 8
abbrev Whole : ℕ → Type 0
Whole ratio = (b : ℕ) → b % 8 ≡ 0 → b / ratio * ratio ≡ b

-- ---- along one axis

module _ (a : Axis) (ok : Regular a) (q : ℕ) where
  side8 : q * a.ctb % 8 ≡ 0
  side8 =
      let whole : 8 * (a.ctb / 8) ≡ a.ctb = omega (arith, ok.ctb8) in
      omega (arith, ap (λ (n : ℕ). q * n) whole)

  limit8 : ctb_limit a q % 8 ≡ 0
  limit8 = omega (arith, side8, ok.ctb8, ok.size8)

  -- the samples of the CTB at place q
  module _ (whole : Whole a.ratio) (x : ℕ) where
    ctb_range : x < samples a → luma_position a x / a.ctb ≡ q → (q * a.ctb / a.ratio ≤ x) × (x < ctb_limit a q / a.ratio)
    ctb_range h e =
        let low : q * a.ctb ≤ luma_position a x = rw e at (lower a (luma_position a x)) in
        let high : luma_position a x < q * a.ctb + a.ctb = rw e at (upper a ok (luma_position a x)) in
        let inside : luma_position a x < a.size = lt_own a.ratio a.size x h in (
          own_le a.ratio (q * a.ctb) x low,
          not_gt (λ (l : ctb_limit a q / a.ratio < suc x).
              let past : ctb_limit a q / a.ratio * a.ratio ≤ luma_position a x = mul-le-mul_right a.ratio (le_of_suc-le-suc l) in
              absurd (omega (arith, whole (ctb_limit a q) limit8))),
        )

    range_ctb : (q * a.ctb / a.ratio ≤ x) → (x < ctb_limit a q / a.ratio) → luma_position a x / a.ctb ≡ q
    range_ctb low high =
        let from : q * a.ctb / a.ratio * a.ratio ≤ luma_position a x = mul-le-mul_right a.ratio low in
        let upto = lt_own a.ratio (ctb_limit a q) x high in
        ctb_of_lem a q (luma_position a x) (omega (arith, whole (q * a.ctb) side8)) (omega arith)

-- ---- in a plane with these ratios to luma

module _ (l : Layout) (ok : AcceptedLayout l) (column_ratio row_ratio line : ℕ) (whole_columns : Whole column_ratio)
    (whole_rows : Whole row_ratio) where
  abbrev plane : Plane
  plane = plane_of l column_ratio row_ratio line

  -- the sample at index i
  module _ (i : ℕ) (h : i < plane_length plane) where
    pub column_in : let g = plane_of l column_ratio row_ratio line in luma_position g.columns (column_of g i) / g.columns.ctb < ctb_columns l
    unfolding plane_of
    column_in = ctb-below plane.columns (regular_columns l ok column_ratio row_ratio line) _
        (lt_own column_ratio _ _ (column-below plane i h))

    pub row_in : let g = plane_of l column_ratio row_ratio line in luma_position g.rows (row_of g i) / g.rows.ctb < ctb_rows l
    unfolding plane_of
    row_in = ctb-below plane.rows (regular_rows l ok column_ratio row_ratio line) _ (lt_own row_ratio _ _ (row_below plane i h))

    -- the sample lies in one of the picture's CTBs
    pub every-ctb : before_ctb l (plane_of l column_ratio row_ratio line) (total_ctbs l) i ≡ true
    unfolding before_ctb
    every-ctb = lt-ltb _ _ (address_below l (ctb_at plane (column_of plane i) (row_of plane i)) column_in row_in)

    -- the sample lies in one of the CTBs for which a test passes, if the test passes for its own CTB
    pub every-ctb_if : (test : ℕ → Bool) → let g = plane_of l column_ratio row_ratio line in
        before_ctb_if l g test (total_ctbs l) i ≡ in_ctb_if l g test i
    unfolding before_ctb_if in_ctb_if
    every-ctb_if test = rw every-ctb (and-true (test (address_at l plane i)))

    -- the CTB at address k is a rectangle
    module _ (k : ℕ) where
      abbrev own : Ctb
      own = ctb_at plane (column_of plane i) (row_of plane i)

      abbrev rectangle : ℕ → Bool
      rectangle =
          in_rect (samples plane.columns)
          (k % ctb_columns l * plane.columns.ctb / column_ratio) (ctb_limit plane.columns (k % ctb_columns l) / column_ratio)
          (k / ctb_columns l * plane.rows.ctb / row_ratio) (ctb_limit plane.rows (k / ctb_columns l) / row_ratio)

      to_rectangle : address l own ≡ k → rectangle i ≡ true
      unfolding plane_of
      to_rectangle e =
          let column : own.column ≡ k % ctb_columns l =
          sym (place-column (ctb_columns l) (ctb_rows l) own.column own.row column_in row_in) ∙ ap (λ (n : ℕ). n % ctb_columns l) e in
          let row : own.row ≡ k / ctb_columns l =
          sym (place-row (ctb_columns l) (ctb_rows l) own.column own.row column_in row_in) ∙ ap (λ (n : ℕ). n / ctb_columns l) e in
          let across = ctb_range plane.columns (regular_columns l ok column_ratio row_ratio line) _ whole_columns _
          (column-below plane i h) column in
          let down = ctb_range plane.rows (regular_rows l ok column_ratio row_ratio line) _ whole_rows _ (row_below plane i h) row in
          in_rect_lem _ _ _ _ _ i (across.0, across.1, down.0, down.1)

      from_rectangle : rectangle i ≡ true → address l own ≡ k
      unfolding plane_of
      from_rectangle t =
          let f = rect_facts _ _ _ _ _ i t in
          let column : own.column ≡ k % ctb_columns l =
          range_ctb plane.columns (regular_columns l ok column_ratio row_ratio line) _ whole_columns _ f.0 f.1 in
          let row : own.row ≡ k / ctb_columns l = range_ctb plane.rows (regular_rows l ok column_ratio row_ratio line) _ whole_rows _
          f.2 f.3 in
          rw (column, row) (div-add-mod' k (ctb_columns l))

      ctb_rectangle : of_ctb l plane k i ≡ rectangle i
      unfolding of_ctb
      ctb_rectangle = same_test (eqb (address l own) k) (rectangle i) (λ t. to_rectangle (eqb-true _ k t))
          (λ t. eq-eqb _ k (from_rectangle t))

      -- by the numbers of the picture's grid, as code has it
      grid_rectangle : (g : Grid) → GridOf l.picture g
          → of_ctb l plane k i ≡ in_rect (l.picture.width / column_ratio)
          (k % g.columns * g.ctb / column_ratio) (min (k % g.columns * g.ctb + g.ctb) l.picture.width / column_ratio)
          (k / g.columns * g.ctb / row_ratio) (min (k / g.columns * g.ctb + g.ctb) l.picture.height / row_ratio) i
      unfolding plane_of
      grid_rectangle g grid = rw (grid-columns l g grid, grid.ctb) ctb_rectangle

  -- a list of the plane's length
  module _ (xs : List ℕ) (size : length xs ≡ plane_length plane) {g : Grid} (grid : GridOf l.picture g) (v : ℕ → ℕ) where
    -- the rectangle that code writes is the CTB
    pub ctb-painted : (k : ℕ) {ys : List ℕ} → ys ≡ painted xs (in_rect (l.picture.width / column_ratio)
        (k % g.columns * g.ctb / column_ratio) (min (k % g.columns * g.ctb + g.ctb) l.picture.width / column_ratio)
        (k / g.columns * g.ctb / row_ratio) (min (k / g.columns * g.ctb + g.ctb) l.picture.height / row_ratio)) v
        → ys ≡ painted xs (of_ctb l plane k) v
    ctb-painted k e = paint_is (paint_same (paint_of e) (λ i h. grid_rectangle i (omega (arith, size)) k g grid) (λ i h t. refl))

    -- all CTBs are written
    pub all_painted : {k : ℕ} {ys : List ℕ} → Paint xs (before_ctb l plane k) v ys → k ≡ g.columns * g.rows
        → ys ≡ tabulate (plane_length plane) v
    all_painted P all = rw size at (paint_all P (λ i h. rw (all ∙ grid_total l g grid) (every-ctb i (omega (arith, size)))))

-- no CTB lies before the first; before the next lie those before this one, and this one
pub no_ctb : (l : Layout) (g : Plane) (i : ℕ) → before_ctb l g 0 i ≡ false
unfolding before_ctb
no_ctb l g i = never (ltb (address_at l g i) 0) (λ t. let h = ltb-true (address_at l g i) 0 t in omega arith)

pub next-ctb : (l : Layout) (g : Plane) (k i : ℕ) → before_ctb l g (k + 1) i ≡ (before_ctb l g k i || of_ctb l g k i)
unfolding before_ctb of_ctb
next-ctb l g k i =
    let at = address_at l g i in
    one_of (ltb at (k + 1)) (ltb at k) (eqb at k)
    (λ t. let h = ltb-true at k t in lt-ltb at (k + 1) (omega arith))
    (λ t. let e = eqb-true at k t in lt-ltb at (k + 1) (omega arith))
    (λ t. let h = ltb-true at (k + 1) t in ⊎_elim (λ b. inl (lt-ltb at k b)) (λ b. inr (eq-eqb at k (omega arith))) (order at k))

-- ---- a loop over the CTBs that writes those for which a test passes

and-or : (t a b c : Bool) → (b ≡ true → t ≡ c) → (t && (a || b)) ≡ ((t && a) || (c && b))
and-or true true b c e = refl
and-or true false true c e = e refl ∙ sym (and-true c)
and-or true false false c e = sym (and-false c)
and-or false a true c e = e refl ∙ sym (and-true c)
and-or false a false c e = sym (and-false c)

module _ (l : Layout) (g : Plane) (test : ℕ → Bool) (v : ℕ → ℕ) where
  -- before the first CTB nothing is written
  pub ctbs_none : {xs : List ℕ} → Paint xs (before_ctb_if l g test 0) v xs
  unfolding before_ctb_if
  ctbs_none = paint_none (λ i. rw (no_ctb l g i) (and-false (test (address_at l g i))))

  -- one CTB more is written, if the test passes for it
  pub ctbs-next : (k : ℕ) {xs ys zs : List ℕ} → Paint xs (before_ctb_if l g test k) v ys → zs ≡ painted ys (of_ctb_if l g test k) v
      → Paint xs (before_ctb_if l g test (k + 1)) v zs
  unfolding before_ctb_if of_ctb_if of_ctb
  ctbs-next k P e = paint_call _ _ P e (λ i h t. refl) (λ i h. ap (λ (b : Bool). test (address_at l g i) && b) (next-ctb l g k i)
      ∙ and-or (test (address_at l g i)) (before_ctb l g k i) (of_ctb l g k i) (test k)
      (λ t. ap test (eqb-true (address_at l g i) k t)))

  -- one CTB is written where the test passes, and nothing where it fails
  pub ctb_passes_lem : (k : ℕ) (xs : List ℕ) {ys : List ℕ} → test k ≡ true → ys ≡ painted xs (of_ctb l g k) v
      → ys ≡ painted xs (of_ctb_if l g test k) v
  unfolding of_ctb_if
  ctb_passes_lem k xs e h = paint_is (paint_same (paint_of {xs = xs} h) (λ i below. rw e) (λ i below t. refl))

  pub ctb_fails : (k : ℕ) (xs : List ℕ) → test k ≡ false → xs ≡ painted xs (of_ctb_if l g test k) v
  unfolding of_ctb_if
  ctb_fails k xs e = paint_is (paint_none (λ i. rw e))
