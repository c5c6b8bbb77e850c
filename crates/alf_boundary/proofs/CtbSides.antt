-- Laws of a CTB's sides and corners: what the code reads in the tables is what the definitions say of the layout. Assumes nothing.
use mathlib.Core.Path.{◌≡◌, refl, sym, ◌∙◌}
use mathlib.Core.Bool.{Bool, true, false, ◌&&◌, and-true, and_assoc, cond, not-not}
use Prim.Native.Nat.{ℕ, suc, ◌+◌, ◌<◌}
use native.Mathlib.Nat.{zero-lt-suc}
use native.Mathlib.Numerals.{add-one}
use lib.Dec.{ltb, eqb}
use borrow.Author.Tests.{lt-ltb, eq-eqb}
use Rattle.alf_spec.specs.declared.ClipCause.{ClipCause}
use Rattle.alf_spec.specs.declared.ClipCause.TheVariants.{Open}
use Rattle.alf_spec.specs.declared.Ctb.{Ctb}
use Rattle.alf_spec.specs.declared.Grid.{Grid}
use Rattle.alf_spec.specs.Input.{Layout}
use Rattle.alf_spec.specs.Geometry.{Side, before, after, has_next}
use Rattle.alf_spec.specs.Boundary.{slice_of, subpic_of, tile_column_of, tile_row_of, tile_disables, slice_disables, subpic_disables, step_cause}
use Rattle.alf_spec.specs.Boundary.{beside_ctb, stacked_ctb, diagonal_ctb, column_side, row_side, corner_disabled}
use Rattle.alf_math.specs.Grids.{GridOf}
use Rattle.alf_math.proofs.Grids.{grid-columns, grid-rows}
use Rattle.alf_boundary.specs.declared.sides.Origin.{Origin}
use Rattle.alf_boundary.specs.Tables.{SidesOf}
use Rattle.alf_boundary.specs.Neighbours.{beside, stacked, diagonal}
use Rattle.alf_boundary.specs.SideCauses.{corner_toward, origin_at, cause_toward}

-- ---- of n places along an axis, x has one before it where it is not the first, and one after it where it is not the last

pub has_before_lem : (n x : ℕ) → x < n → ltb 0 x ≡ has_next n before x
has_before_lem n x h = rw (lt-ltb x n h) (sym (and-true (ltb 0 x)))

pub has_after_lem : (n x : ℕ) → ltb (x + 1) n ≡ has_next n after x
has_after_lem n x = rw (add-one, lt-ltb 0 (suc x) (zero-lt-suc x))

-- a number equals itself
eqb_same : (n : ℕ) → eqb n n ≡ true
eqb_same n = eq-eqb n n refl

-- ---- the CTB c of a layout

module _ (l : Layout) (g : Grid) (h : GridOf l.picture g) (c : Ctb) where
  -- what decides at its sides
  abbrev pub origin : Origin
  origin = origin_at l g.columns c

  -- the cause toward another CTB
  abbrev pub toward : Ctb → ClipCause
  toward n = cause_toward l origin n

  -- toward the CTB n where it is there, and toward itself where it is not
  step_is : (there : Bool) (n : Ctb) → toward (cond there n c) ≡ cond there (step_cause l c n) Open
  unfolding step_cause tile_disables slice_disables subpic_disables tile_column_of tile_row_of slice_of subpic_of
  step_is true n = rw (not-not, grid-columns l g h)
  step_is false n = simp eqb_same

  column_side_lem : (d : Side) → toward (beside g c d) ≡ column_side l c d
  unfolding column_side
  column_side_lem d = rw (← grid-columns l g h) (step_is (has_next g.columns d c.column) (beside_ctb d c))

  row_side_lem : (d : Side) → toward (stacked g c d) ≡ row_side l c d
  unfolding row_side
  row_side_lem d = rw (← grid-rows l g h) (step_is (has_next g.rows d c.row) (stacked_ctb d c))

  slice_is : (there : Bool) (n : Ctb) → corner_toward l origin (cond there n c) ≡ (there && slice_disables l c n)
  unfolding slice_disables slice_of
  slice_is true n = rw (grid-columns l g h)
  slice_is false n = simp eqb_same

  corner : (d : Side) → corner_toward l origin (diagonal g c d) ≡ corner_disabled l c d
  unfolding corner_disabled
  corner d =
      let x = has_next g.columns d c.column in
      let y = has_next g.rows d c.row in
      rw (← grid-columns l g h, ← grid-rows l g h)
      (slice_is (x && y) (diagonal_ctb d c) ∙ and_assoc x y (slice_disables l c (diagonal_ctb d c)))

  -- its sides and corners, from what its neighbours say
  pub sides_are : SidesOf l c (record {
    left = toward (beside g c before);
    right = toward (beside g c after);
    top = toward (stacked g c before);
    bottom = toward (stacked g c after);
    upper_left = corner_toward l origin (diagonal g c before);
    lower_right = corner_toward l origin (diagonal g c after);
  })
  sides_are = record {
    left = column_side_lem before;
    right = column_side_lem after;
    top = row_side_lem before;
    bottom = row_side_lem after;
    upper_left = corner before;
    lower_right = corner after;
  }
