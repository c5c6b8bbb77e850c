-- A test of the eight steps from a sample or a block, two left and right, two up and down, four diagonal: what it says of each, and that it
-- passes where each does. Assumes nothing.
use mathlib.Core.Path.{◌≡◌}
use mathlib.Core.Bool.{Bool, true, ◌&&◌}
use Rattle.alf_spec.specs.Lists.{implies}
use Rattle.alf_spec.specs.Geometry.{Side, before, after}
use Rattle.alf_spec.specs.Isolation.{both_sides}
use Rattle.alf_spec.proofs.Tests.{both, implied, imply}

on_side : (test : Side → Bool) → both_sides test ≡ true → (d : Side) → test d ≡ true
on_side test q before = (both (test before) (test after) q).0
on_side test q after = (both (test before) (test after) q).1

on_both : (test : Side → Bool) → ((d : Side) → test d ≡ true) → both_sides test ≡ true
on_both test f = simp (f before, f after)

-- each open step leads to a place that is held
pub record Eight (column_open column_held row_open row_held : Side → Bool) (diagonal_open diagonal_held : Side → Side → Bool) : Type 0 where
  pub column : (d : Side) → column_open d ≡ true → column_held d ≡ true
  pub row : (e : Side) → row_open e ≡ true → row_held e ≡ true
  pub diagonal : (d e : Side) → diagonal_open d e ≡ true → diagonal_held d e ≡ true

module _ (column_open column_held row_open row_held : Side → Bool) (diagonal_open diagonal_held : Side → Side → Bool) where
  abbrev column_test : Side → Bool
  column_test d = implies (column_open d) (column_held d)

  abbrev row_test : Side → Bool
  row_test e = implies (row_open e) (row_held e)

  abbrev diagonal_test : Side → Side → Bool
  diagonal_test d e = implies (diagonal_open d e) (diagonal_held d e)

  -- the form that `stays_inside` has
  abbrev pub eight_test : Bool
  eight_test = both_sides column_test && (both_sides row_test && both_sides (λ d. both_sides (diagonal_test d)))

  pub eight_steps : eight_test ≡ true → Eight column_open column_held row_open row_held diagonal_open diagonal_held
  eight_steps q =
      let c = both (both_sides column_test) _ q in
      let r = both (both_sides row_test) _ c.1 in
      record {
        column = λ d. implied (column_open d) (column_held d) (on_side column_test c.0 d);
        row = λ e. implied (row_open e) (row_held e) (on_side row_test r.0 e);
        diagonal = λ d e.
            implied (diagonal_open d e) (diagonal_held d e) (on_side (diagonal_test d) (on_side (λ d. both_sides (diagonal_test d)) r.1 d) e);
      }

  pub test_eight : Eight column_open column_held row_open row_held diagonal_open diagonal_held → eight_test ≡ true
  test_eight s = simp (
    on_both column_test (λ d. imply (column_open d) (column_held d) (s.column d)),
    on_both row_test (λ e. imply (row_open e) (row_held e) (s.row e)),
    on_both (λ d. both_sides (diagonal_test d))
        (λ d. on_both (diagonal_test d) (λ e. imply (diagonal_open d e) (diagonal_held d e) (s.diagonal d e))),
  )
