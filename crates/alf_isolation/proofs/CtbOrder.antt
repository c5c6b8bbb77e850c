-- The blocks CTB by CTB are all the blocks, so the isolation test may go by CTBs. Assumes nothing.
use mathlib.Core.Path.{◌≡◌, refl, ◌∙◌}
use mathlib.Core.Bool.{true}
use mathlib.Core.List.{List}
use Prim.Native.Nat.{ℕ, ◌+◌, ◌*◌, ◌/◌, ◌%◌, ◌<◌}
use native.Mathlib.Nat.{mod-lt, div-add-mod', div-div-eq-div-mul}
use native.Mathlib.Omega.{arith}
use Rattle.alf_spec.specs.declared.Ctb.{Ctb}
use Rattle.alf_spec.specs.Lists.{all_below}
use Rattle.alf_spec.specs.Input.{Layout}
use Rattle.alf_spec.specs.Geometry.{Axis, samples, ctb_size, plane_of, block_plane, ctb_count, ctb_columns, ctb_rows, total_ctbs, address, ctb_of}
use Rattle.alf_spec.specs.Isolation.{isolated}
use Rattle.alf_spec.specs.Faults.{isolation_fault}
use Rattle.alf_spec.proofs.Tests.{same_test, all_at, at_all}
use Rattle.alf_spec.proofs.Planes.{address_below, address-ctb}
use Rattle.alf_spec.proofs.Accepted.{AcceptedLayout, accepted-layout}
use Rattle.alf_spec.proofs.Axes.{Regular, regular_columns, regular_rows}
use Rattle.alf_spec.proofs.IsolatedRegions.Steps.{ctb-below}
use Rattle.alf_isolation.specs.Blocks.{blocks_pass, blocks_in, ctb_passes}
use Rattle.alf_isolation.proofs.Blocks.{by_blocks}

-- ---- the blocks along one axis

module _ (a : Axis) where
  -- block i of CTB q is a block of the picture
  pub block_below : (q i : ℕ) → i < blocks_in a q → q * (a.ctb / 8) + i < samples a
  unfolding blocks_in
  block_below q i h = omega arith

  module _ (ok : Regular a) (blocks : a.ratio ≡ 8) (x : ℕ) (h : x < samples a) where
    -- a block of the picture is one of its CTB's blocks
    in_ctb_lem : x % (a.ctb / 8) < blocks_in a (x / (a.ctb / 8))
    unfolding blocks_in
    in_ctb_lem =
        let positive : 0 < a.ctb / 8 = omega (arith, ok.big) in
        omega (arith, mod-lt x positive, div-add-mod' x (a.ctb / 8))

    -- the CTB of a block of the picture is one of the picture's
    ctb_in : x / (a.ctb / 8) < ctb_count a
    ctb_in =
        let in_picture : 8 * x < a.size = omega (arith, rw blocks at h) in
        let whole : 8 * (a.ctb / 8) ≡ a.ctb = omega (arith, ok.ctb8) in
        let own : 8 * x / 8 ≡ x = omega arith in
        rw (← own, div-div-eq-div-mul (8 * x) 8 (a.ctb / 8), whole) (ctb-below a ok (8 * x) in_picture)

-- ---- CTB by CTB

module _ (l : Layout) (region : List ℕ) (accepted : isolation_fault l region ≡ 0) where
  ok : AcceptedLayout l
  ok = accepted-layout l region accepted

  to_ctbs : blocks_pass l region ≡ true → all_below (total_ctbs l) (λ k. ctb_passes l region (ctb_of l k)) ≡ true
  unfolding plane_of blocks_pass ctb_passes
  to_ctbs pass =
      at_all (total_ctbs l) _ (λ k _. at_all _ _ (λ j row. at_all _ _ (λ i column.
      all_at _ _ (all_at _ _ pass _ (block_below (block_plane l).rows (k / ctb_columns l) j row)) _
      (block_below (block_plane l).columns (k % ctb_columns l) i column))))

  -- where every CTB passes, so does the CTB c
  passes : all_below (total_ctbs l) (λ k. ctb_passes l region (ctb_of l k)) ≡ true
      → (c : Ctb) → c.column < ctb_columns l → c.row < ctb_rows l → ctb_passes l region c ≡ true
  passes pass c column row = rw (address-ctb l c column row) at (all_at (total_ctbs l) _ pass (address l c) (address_below l c column row))

  to_all : all_below (total_ctbs l) (λ k. ctb_passes l region (ctb_of l k)) ≡ true → blocks_pass l region ≡ true
  unfolding plane_of blocks_pass ctb_passes
  to_all pass =
      let columns = regular_columns l ok 8 8 4 in
      let rows = regular_rows l ok 8 8 4 in
      let side = ctb_size l.picture / 8 in
      at_all _ _ (λ y row. at_all _ _ (λ x column.
      let own = passes pass (record { column = x / side; row = y / side }) (ctb_in _ columns refl x column) (ctb_in _ rows refl y row) in
      rw (div-add-mod' x side, div-add-mod' y side)
      at (all_at _ _ (all_at _ _ own (y % side) (in_ctb_lem _ rows refl y row)) (x % side) (in_ctb_lem _ columns refl x column))))

  -- every block of the picture passes exactly when every block of each CTB does
  pub by_ctbs : blocks_pass l region ≡ all_below (total_ctbs l) (λ k. ctb_passes l region (ctb_of l k))
  by_ctbs = same_test _ _ to_ctbs to_all

  -- what code tests is the definition
  pub isolated_by_ctbs : isolated l region ≡ all_below (total_ctbs l) (λ k. ctb_passes l region (ctb_of l k))
  isolated_by_ctbs = by_blocks l region accepted ∙ by_ctbs
