-- The tables of an accepted layout, and the entries of a CTB in them. Assumes nothing.
use mathlib.Core.Path.{◌≡◌, refl, ◌∙◌, sym}
use mathlib.Core.Bool.{Bool, true, false, cond}
use Prim.Native.Nat.{ℕ, suc, pred, ◌+◌, ◌*◌, ◌<◌}
use native.Mathlib.Omega.{arith}
use lib.Dec.{ltb}
use lib.ListN.{length}
use borrow.Author.Tests.{ltb-true}
use Rattle.alf_spec.specs.declared.Ctb.{Ctb}
use Rattle.alf_spec.specs.declared.Grid.{Grid}
use Rattle.alf_spec.specs.Lists.{every}
use Rattle.alf_spec.specs.Input.{Layout}
use Rattle.alf_spec.specs.Geometry.{Side, before, after, next, has_next}
use Rattle.alf_spec.specs.Faults.{subpictures_valid}
use Rattle.alf_spec.proofs.Tests.{both, every-at}
use Rattle.alf_spec.proofs.Planes.{place-below}
use Rattle.alf_spec.proofs.Accepted.{AcceptedLayout, table_lengths}
use Rattle.alf_math.specs.Grids.{GridOf}
use Rattle.alf_math.proofs.Grids.{grid-columns, grid-rows, grid_total}
use Rattle.alf_boundary.specs.Tables.{MembershipTables}
use Rattle.alf_boundary.specs.Memberships.{InTables}
use Rattle.alf_boundary.specs.Neighbours.{beside, stacked, diagonal}

-- an accepted layout has the tables of its grid
pub tables_of_lem : (l : Layout) (g : Grid) → GridOf l.picture g → AcceptedLayout l
    → MembershipTables g l
unfolding subpictures_valid
tables_of_lem l g h ok =
    let lengths = table_lengths l ok.lengths in
    record {
      columns_length = lengths.tile_columns ∙ sym (grid-columns l g h);
      rows_length = lengths.tile_rows ∙ sym (grid-rows l g h);
      slice_length = lengths.slice_map ∙ sym (grid_total l g h);
      subpic_length = lengths.subpic_map ∙ sym (grid_total l g h);
      switch_length = lengths.subpic_across;
      subpictures = (both (every (λ n. ltb n 64) l.subpic_map) _ ok.subpictures).0;
    }

-- the place next to x among n, where it has one on that side
next-within : (n x : ℕ) (d : Side) → has_next n d x ≡ true → next d x < n
next-within n x before e = down (ltb-true x n (both (ltb 0 x) (ltb x n) e).1)
  where
    down : x < n → pred x < n
    down h = omega arith
next-within n x after e = ltb-true (suc x) n (both (ltb 0 (suc x)) (ltb (suc x) n) e).1

-- the tables of a grid
module _ {g : Grid} {l : Layout} (t : MembershipTables g l) where
  -- a CTB has its entries, and its subpicture a switch
  pub in_tables : (c : Ctb) → c.column < g.columns → c.row < g.rows
      → InTables l g.columns c
  in_tables c x y =
      let here : c.row * g.columns + c.column < length l.subpic_map =
      rw t.subpic_length (place-below g.columns g.rows c.column c.row x y) in
      let below = every-at 0 0 (λ k n. ltb n 64) l.subpic_map t.subpictures (c.row * g.columns + c.column) here in
      record {
        column = rw t.columns_length x;
        row = rw t.rows_length y;
        slice = rw t.slice_length (place-below g.columns g.rows c.column c.row x y);
        subpic = here;
        switch = rw t.switch_length (ltb-true _ 64 below);
      }

  -- the CTBs next to c on one side lie in the grid, and have their entries
  module _ (c : Ctb) (x : c.column < g.columns) (y : c.row < g.rows) (d : Side) where
    abbrev Entries : Ctb → Type 0
    Entries n = InTables l g.columns n

    -- a CTB where it is there, and c itself where it is not
    reached : (there : Bool) (n : Ctb) → (there ≡ true → Entries n) → Entries (cond there n c)
    reached true n e = e refl
    reached false n e = in_tables c x y

    pub beside_reached : Entries (beside g c d)
    beside_reached = reached _ _ (λ e. in_tables _ (next-within g.columns c.column d e) y)

    pub stacked_reached : Entries (stacked g c d)
    stacked_reached = reached _ _ (λ e. in_tables _ x (next-within g.rows c.row d e))

    pub diagonal_reached : Entries (diagonal g c d)
    diagonal_reached =
        reached _ _ (λ e.
        let h = both (has_next g.columns d c.column) (has_next g.rows d c.row) e in
        in_tables _ (next-within g.columns c.column d h.0) (next-within g.rows c.row d h.1))
