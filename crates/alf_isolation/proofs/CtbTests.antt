-- The isolation test of a CTB by its address: what it needs to know of the CTB, and what its answer says. Assumes nothing.
use mathlib.Core.Path.{◌≡◌, sym, ◌∙◌, ap}
use mathlib.Core.Bool.{Bool}
use mathlib.Core.List.{List}
use Prim.Native.Nat.{ℕ, ◌*◌, ◌/◌, ◌%◌, ◌<◌}
use Rattle.alf_spec.specs.declared.Grid.{Grid}
use Rattle.alf_spec.specs.declared.Sides.{Sides}
use Rattle.alf_spec.specs.Lists.{all_below}
use Rattle.alf_spec.specs.Input.{Layout}
use Rattle.alf_spec.specs.Geometry.{plane_of}
use Rattle.alf_spec.specs.Isolation.{isolated}
use Rattle.alf_spec.specs.Faults.{isolation_fault}
use Rattle.alf_spec.proofs.Accepted.{AcceptedLayout, accepted-layout, accepted_region}
use Rattle.alf_spec.proofs.Axes.{regular_columns, regular_rows}
use Rattle.alf_math.specs.Grids.{GridOf}
use Rattle.alf_math.proofs.Grids.{width_bounds, height_bounds, grid-columns, grid_total}
use Rattle.alf_boundary.specs.Tables.{SidesOf}
use Rattle.alf_math.proofs.CtbAddresses.{ctb_in_picture}
use Rattle.alf_isolation.specs.Blocks.{ctb_passes}
use Rattle.alf_isolation.specs.Steps.{ctb_test, address_passes, BlocksOf}
use Rattle.alf_isolation.proofs.CtbOrder.{isolated_by_ctbs}
use Rattle.alf_isolation.proofs.CtbSteps.{ctb_by_sides}

-- an accepted layout and region
module _ (l : Layout) (region : List ℕ) (accepted : isolation_fault l region ≡ 0) (g : Grid) (h : GridOf l.picture g) where
  ok : AcceptedLayout l
  ok = accepted-layout l region accepted

  blocks_of : BlocksOf l.picture g.ctb region
  unfolding plane_of
  blocks_of = record {
    ctb_low = h.ctb_low;
    ctb8 = rw h.ctb (regular_columns l ok 8 8 4).ctb8;
    width_high = (width_bounds l.picture ok.sizes ok.ctb_size).1;
    width8 = (regular_columns l ok 8 8 4).size8;
    height_high = (height_bounds l.picture ok.sizes ok.ctb_size).1;
    height8 = (regular_rows l ok 8 8 4).size8;
    numbers = accepted_region l region accepted;
  }

  -- the code's answer for all CTBs
  pub isolated_test : {r : Bool} → r ≡ all_below (g.columns * g.rows) (address_passes l region) → r ≡ isolated l region
  unfolding address_passes
  isolated_test e = e ∙ rw (grid_total l g h) (sym (isolated_by_ctbs l region accepted))

  -- the CTB at address k
  module _ (k : ℕ) (below : k < g.columns * g.rows) where
    -- it begins in the picture, and the region has its blocks
    pub in_region : (BlocksOf l.picture g.ctb region)
        × (k % g.columns * g.ctb < l.picture.width) × (k / g.columns * g.ctb < l.picture.height)
    in_region = let begin = ctb_in_picture h k below in (blocks_of, begin.0, begin.1)

    -- the code's answer for a CTB with these sides
    pub address_passes_lem : {s : Sides} → SidesOf l (record { column = k % g.columns; row = k / g.columns }) s → {r : Bool}
        → r ≡ ctb_test l.picture g.ctb l.virtual_columns l.virtual_rows region
        (record { column = k % g.columns; row = k / g.columns }) s
        → r ≡ address_passes l region k
    unfolding address_passes
    address_passes_lem sides e =
        e ∙ rw h.ctb (ctb_by_sides l ok region _ _ sides)
        ∙ ap (λ (n : ℕ). ctb_passes l region (record { column = k % n; row = k / n })) (grid-columns l g h)
