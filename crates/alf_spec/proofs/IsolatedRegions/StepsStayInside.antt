-- An open step from a luma sample inside an isolated region ends inside it. Assumes nothing.
use mathlib.Core.Path.{◌≡◌}
use mathlib.Core.Bool.{true}
use mathlib.Core.List.{List}
use Prim.Native.Nat.{ℕ, ◌<◌}
use Rattle.alf_spec.specs.Input.{Layout}
use Rattle.alf_spec.specs.Geometry.{Side, next, plane_of, luma_plane}
use Rattle.alf_spec.specs.Isolation.{column_step, row_step, diagonal_step, inside, stays_inside, isolated}
use Rattle.alf_spec.proofs.Tests.{both, implied, all_at}
use Rattle.alf_spec.proofs.IsolatedRegions.EightSteps.{Eight, eight_steps}
use Rattle.alf_spec.proofs.IsolatedRegions.Steps.{next-below, opened}

-- the luma sample at column x and row y lies in the picture and in the region: `Inside` of the luma plane, without its ratio
pub record LumaInside (l : Layout) (region : List ℕ) (x y : ℕ) : Type 0 where
  pub column : x < l.picture.width
  pub row : y < l.picture.height
  pub position : inside l region x y ≡ true

module _ (l : Layout) (x y : ℕ) where
  column-below : (d : Side) → column_step l x y d ≡ true → next d x < l.picture.width
  unfolding column_step plane_of
  column-below d q = next-below _ d x (opened (luma_plane l).columns _ d x q).1

  row_below : (e : Side) → row_step l x y e ≡ true → next e y < l.picture.height
  unfolding row_step plane_of
  row_below e q = next-below _ e y (opened (luma_plane l).rows _ e y q).1

module _ (l : Layout) (region : List ℕ) (iso : isolated l region ≡ true) (x y : ℕ) (h : LumaInside l region x y) where
  stays : Eight (column_step l x y) (λ d. inside l region (next d x) y) (row_step l x y) (λ e. inside l region x (next e y))
      (diagonal_step l x y) (λ d e. inside l region (next d x) (next e y))
  unfolding isolated stays_inside
  stays =
      eight_steps _ _ _ _ _ _
      (implied (inside l region x y) (stays_inside l region x y) (all_at _ _ (all_at _ _ iso y h.row) x h.column) h.position)

  pub column_stays : (d : Side) → column_step l x y d ≡ true → LumaInside l region (next d x) y
  column_stays d q = record {
    column = column-below l x y d q;
    row = h.row;
    position = stays.column d q;
  }

  pub row_stays : (e : Side) → row_step l x y e ≡ true → LumaInside l region x (next e y)
  row_stays e q = record {
    column = h.column;
    row = row_below l x y e q;
    position = stays.row e q;
  }

  pub diagonal_stays : (d e : Side) → diagonal_step l x y d e ≡ true → LumaInside l region (next d x) (next e y)
  unfolding diagonal_step
  diagonal_stays d e q =
      let c = both (column_step l x y d) _ q in
      record {
        column = column-below l x y d c.0;
        row = row_below l x y e (both (row_step l x y e) _ c.1).0;
        position = stays.diagonal d e q;
      }
