-- The isolation test by blocks is the definition over all samples: the definition at a block's edge and corner samples is the test of the
-- block, and a step from any sample of a block stays in the block or leaves it as a step from such a sample does. Assumes nothing.
use mathlib.Core.Path.{◌≡◌, refl, sym, ◌∙◌, subst₂}
use mathlib.Core.Bool.{true}
use mathlib.Core.List.{List}
use Prim.Native.Nat.{ℕ, ◌/◌, ◌<◌}
use native.Mathlib.Omega.{arith}
use Rattle.alf_spec.specs.Input.{Layout}
use Rattle.alf_spec.specs.Geometry.{Side, before, next, samples, plane_of, luma_plane, block_plane}
use Rattle.alf_spec.specs.Isolation.{column_step, row_step, diagonal_step, inside, stays_inside, isolated}
use Rattle.alf_spec.specs.Faults.{isolation_fault}
use Rattle.alf_spec.proofs.Tests.{both, implied, imply, same_test, all_at, at_all}
use Rattle.alf_spec.proofs.Accepted.{AcceptedLayout, accepted-layout}
use Rattle.alf_spec.proofs.Axes.{regular_columns, regular_rows}
use Rattle.alf_spec.proofs.IsolatedRegions.EightSteps.{Eight, eight_steps, test_eight}
use Rattle.alf_spec.proofs.IsolatedRegions.StepsStayInside.{LumaInside, column_stays, row_stays, diagonal_stays}
use Rattle.alf_isolation.specs.Blocks.{edge, block_inside, block_stays, block_passes, blocks_pass}
use Rattle.alf_isolation.proofs.BlockEdges.{edge_block, edge-below, edge-next, Leads, stays, leaves, leads, same-ctb}

-- ---- from samples to blocks

module _ (l : Layout) (ok : AcceptedLayout l) (region : List ℕ) (iso : isolated l region ≡ true) (x y : ℕ)
    (column : x < samples (block_plane l).columns) (row : y < samples (block_plane l).rows) (here : block_inside l region x y ≡ true) where
  -- the block's corner samples are in the region
  held : (d e : Side) → LumaInside l region (edge d x) (edge e y)
  unfolding plane_of inside block_inside
  held d e = record {
    column = edge-below l.picture.width (regular_columns l ok 1 1 4).size8 d x column;
    row = edge-below l.picture.height (regular_rows l ok 1 1 4).size8 e y row;
    position = rw (edge_block d x, edge_block e y) here;
  }

  -- where a sample is in the region, its block is
  arrives : (u v p q : ℕ) → LumaInside l region u v → u / 8 ≡ p → v / 8 ≡ q → block_inside l region p q ≡ true
  unfolding inside block_inside
  arrives u v p q h e f = rw (← e, ← f) h.position

  block_stays_lem : block_stays l region x y ≡ true
  unfolding block_stays
  block_stays_lem =
      test_eight (λ d. column_step l (edge d x) (edge before y) d) _ (λ e. row_step l (edge before x) (edge e y) e) _
      (λ d e. diagonal_step l (edge d x) (edge e y) d e) _
      (record {
        column = λ d o. arrives _ _ _ _ (column_stays l region iso _ _ (held d before) d o) (edge-next d x) (edge_block before y);
        row = λ e o. arrives _ _ _ _ (row_stays l region iso _ _ (held before e) e o) (edge_block before x) (edge-next e y);
        diagonal = λ d e o. arrives _ _ _ _ (diagonal_stays l region iso _ _ (held d e) d e o) (edge-next d x) (edge-next e y);
      })

-- ---- from blocks to samples

module _ (l : Layout) (ok : AcceptedLayout l) where
  -- a step along the columns depends on the row only by its block
  column-row : (x y v : ℕ) → y / 8 ≡ v / 8 → (d : Side) → column_step l x y d ≡ column_step l x v d
  unfolding column_step plane_of
  column-row x y v e d = rw (same-ctb (luma_plane l).rows (regular_rows l ok 1 1 4) refl y v e)

  -- a step along the rows depends on the column only by its block
  row-column : (x u y : ℕ) → x / 8 ≡ u / 8 → (e : Side) → row_step l x y e ≡ row_step l u y e
  unfolding row_step plane_of
  row-column x u y q e = rw (same-ctb (luma_plane l).columns (regular_columns l ok 1 1 4) refl x u q)

module _ (l : Layout) (ok : AcceptedLayout l) (region : List ℕ) (x y : ℕ) (here : block_inside l region (x / 8) (y / 8) ≡ true)
    (block : block_stays l region (x / 8) (y / 8) ≡ true) where
  block_steps : Eight (λ d. column_step l (edge d (x / 8)) (edge before (y / 8)) d) (λ d. block_inside l region (next d (x / 8)) (y / 8))
      (λ e. row_step l (edge before (x / 8)) (edge e (y / 8)) e) (λ e. block_inside l region (x / 8) (next e (y / 8)))
      (λ d e. diagonal_step l (edge d (x / 8)) (edge e (y / 8)) d e) (λ d e. block_inside l region (next d (x / 8)) (next e (y / 8)))
  unfolding block_stays
  block_steps = eight_steps _ _ _ _ _ _ block

  column-held : (d : Side) (b : ℕ) → Leads d x b → column_step l x y d ≡ true → block_inside l region b (y / 8) ≡ true
  column-held d _ stays o = here
  column-held d _ (leaves q) o =
      block_steps.column d (rw q at (sym (column-row l ok x y (edge before (y / 8)) (sym (edge_block before (y / 8))) d) ∙ o))

  row-held : (e : Side) (b : ℕ) → Leads e y b → row_step l x y e ≡ true → block_inside l region (x / 8) b ≡ true
  row-held e _ stays o = here
  row-held e _ (leaves q) o =
      block_steps.row e (rw q at (sym (row-column l ok x (edge before (x / 8)) y (sym (edge_block before (x / 8))) e) ∙ o))

  -- only where both parts of a diagonal step leave the block does it leave over a corner
  diagonal-held : (d e : Side) (b c : ℕ) → Leads d x b → Leads e y c → diagonal_step l x y d e ≡ true → block_inside l region b c ≡ true
  unfolding diagonal_step
  diagonal-held d e _ c stays n o = row-held e c n (both (row_step l x y e) _ (both (column_step l x y d) _ o).1).0
  diagonal-held d e b _ (leaves q) stays o = column-held d b (leaves q) (both (column_step l x y d) _ o).0
  diagonal-held d e _ _ (leaves q) (leaves r) o = block_steps.diagonal d e (subst₂ (λ u v. diagonal_step l u v d e ≡ true) q r o)

  sample_stays : stays_inside l region x y ≡ true
  unfolding stays_inside inside block_inside
  sample_stays =
      test_eight (column_step l x y) _ (row_step l x y) _ (diagonal_step l x y) _
      (record {
        column = λ d. column-held d _ (leads d x);
        row = λ e. row-held e _ (leads e y);
        diagonal = λ d e. diagonal-held d e _ _ (leads d x) (leads e y);
      })

-- ---- both ways

module _ (l : Layout) (region : List ℕ) (accepted : isolation_fault l region ≡ 0) where
  ok : AcceptedLayout l
  ok = accepted-layout l region accepted

  to_blocks : isolated l region ≡ true → blocks_pass l region ≡ true
  unfolding blocks_pass block_passes
  to_blocks iso =
      at_all _ _ (λ y row. at_all _ _ (λ x column.
      imply (block_inside l region x y) _ (block_stays_lem l ok region iso x y column row)))

  to_samples : blocks_pass l region ≡ true → isolated l region ≡ true
  unfolding isolated inside plane_of blocks_pass block_passes block_inside
  to_samples pass =
      at_all _ _ (λ y row. at_all _ _ (λ x column. imply (inside l region x y) _ (λ here.
      let in_row : y / 8 < l.picture.height / 8 = omega (arith, (regular_rows l ok 1 1 4).size8) in
      let in_column : x / 8 < l.picture.width / 8 = omega (arith, (regular_columns l ok 1 1 4).size8) in
      let passed = all_at _ _ (all_at _ _ pass (y / 8) in_row) (x / 8) in_column in
      sample_stays l ok region x y here (implied (block_inside l region (x / 8) (y / 8)) _ passed here))))

  -- every sample passes exactly where every block does
  pub by_blocks : isolated l region ≡ blocks_pass l region
  by_blocks = same_test _ _ to_blocks to_samples
