-- A luma position of an accepted picture: its CTB is in the grid, and the rule along an axis as code has it is that of the luma plane.
-- Assumes nothing.
use mathlib.Core.Path.{◌≡◌, refl, sym, ap, ◌∙◌}
use mathlib.Core.List.{List}
use Prim.Native.Nat.{ℕ, suc, ◌+◌, ◌-◌, ◌/◌, ◌≤◌, ◌<◌}
use native.Mathlib.Nat.{mul-one, div-mul-le_self, le-div_iff_mul-le}
use native.Mathlib.Omega.{arith}
use Rattle.alf_spec.specs.declared.ClipCause.{ClipCause}
use Rattle.alf_spec.specs.declared.Ctb.{Ctb}
use Rattle.alf_spec.specs.declared.Grid.{Grid}
use Rattle.alf_spec.specs.declared.Sides.{Sides}
use Rattle.alf_spec.specs.Input.{Layout}
use Rattle.alf_spec.specs.Geometry.{Side, before, after, plane_of, luma_plane, ctb_at, axis_of}
use Rattle.alf_spec.specs.Boundary.{column_side, row_side, clip, cause_of}
use Rattle.alf_spec.specs.Causes.{column_cause, row_cause, causes_at}
use Rattle.alf_spec.proofs.Accepted.{AcceptedLayout}
use Rattle.alf_math.specs.Grids.{ctbs_along, GridOf}
use Rattle.alf_math.proofs.Grids.{width_bounds, height_bounds}
use Rattle.alf_boundary.specs.Clips.{column_axis, row_axis, axis_along, sides_along, InCtb}
use Rattle.alf_boundary.specs.Tables.{MembershipTables, SidesOf}
use Rattle.alf_boundary.specs.declared.clips.CtbAxis.{CtbAxis}
use Rattle.alf_boundary.proofs.ClipRules.{sides-same}
use Rattle.alf_boundary.proofs.Tables.{tables_of_lem}

-- a position before the end of n samples lies in one of their CTBs
in_along : (s n x : ℕ) {count : ℕ} → 0 < s → count ≡ (n + (s - 1)) / s → x < n → x / s < count
in_along s n x positive e h = rw e ((le-div_iff_mul-le {k = s} {x = suc (x / s)} positive).1 (omega (arith, div-mul-le_self x s)))

module _ (l : Layout) (ok : AcceptedLayout l) {g : Grid} (h : GridOf l.picture g) (x y : ℕ) (column : x < l.picture.width)
    (row : y < l.picture.height) where
  -- the position's CTB
  abbrev pub own : Ctb
  own = record { column = x / g.ctb; row = y / g.ctb }

  pub in_grid : (GridOf l.picture g)
      × (MembershipTables g l)
      × (x / g.ctb < g.columns) × (y / g.ctb < g.rows)
  unfolding ctbs_along
  in_grid =
      let positive : 0 < g.ctb = omega (arith, h.ctb_low) in (
        h,
        tables_of_lem l g h ok,
        in_along _ _ x positive (rw h.ctb h.columns) column,
        in_along _ _ y positive (rw h.ctb h.rows) row,
      )

  pub bounded : (s : Sides) → InCtb (column_axis l.picture g s (x / g.ctb)) x × InCtb (row_axis l.picture g s 4 (y / g.ctb)) y
  bounded s =
      let wide = width_bounds l.picture ok.sizes ok.ctb_size in
      let high = height_bounds l.picture ok.sizes ok.ctb_size in
      let low : 4 ≤ g.ctb = omega (arith, h.ctb_low) in (
        record { low = low; high = h.ctb_high; line = omega arith; small = omega arith; place = refl },
        record { low = low; high = h.ctb_high; line = omega arith; small = omega arith; place = refl },
      )

  own_is : own ≡ ctb_at (luma_plane l) x y
  unfolding plane_of
  own_is = λ t. record { column = sym (mul-one x) t / h.ctb t; row = sym (mul-one y) t / h.ctb t }

  -- what the rule along an axis gives on side d
  abbrev Found : CtbAxis → List ℕ → ℕ → Side → ClipCause → Type 0
  Found a list u d r = r ≡ cause_of (clip (axis_along a list 1) u (sides_along a) d)

  -- from what code knows of the CTB's sides
  module _ {s : Sides} (sides : SidesOf l own s) where
    abbrev across : CtbAxis
    across = column_axis l.picture g s (x / g.ctb)

    abbrev down : CtbAxis
    down = row_axis l.picture g s 4 (y / g.ctb)

    column_cause_lem : (d : Side) {r : ClipCause} → Found across l.virtual_columns x d r → r ≡ column_cause l x y d
    unfolding column_cause plane_of
    column_cause_lem d f =
        let same = sides-same {given = sides_along across} sides.left sides.right ∙ ap (column_side l) own_is in
        f ∙ (λ t. cause_of (clip (axis_of l.picture.width (h.ctb t) l.virtual_columns 0 1) (sym (mul-one x) t) (same t) d))

    row_cause_lem : (d : Side) {r : ClipCause} → Found down l.virtual_rows y d r → r ≡ row_cause l x y d
    unfolding row_cause plane_of
    row_cause_lem d f =
        let same = sides-same {given = sides_along down} sides.top sides.bottom ∙ ap (row_side l) own_is in
        f ∙ (λ t. cause_of (clip (axis_of l.picture.height (h.ctb t) l.virtual_rows 4 1) (sym (mul-one y) t) (same t) d))

    -- the causes that code finds
    pub causes_are : {top bottom left right : ClipCause} → Found down l.virtual_rows y before top
        → Found down l.virtual_rows y after bottom
        → Found across l.virtual_columns x before left
        → Found across l.virtual_columns x after right
        → record { top = top; bottom = bottom; left = left; right = right } ≡ causes_at l x y
    unfolding causes_at
    causes_are t b l r = λ i. record {
      top = row_cause_lem before t i;
      bottom = row_cause_lem after b i;
      left = column_cause_lem before l i;
      right = column_cause_lem after r i;
    }
