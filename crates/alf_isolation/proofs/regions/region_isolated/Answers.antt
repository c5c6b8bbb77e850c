-- A CTB that fails decides, and so do all that pass; what each needs to know of its sides stands in the table. Assumes nothing.
use Rattle.std.proofs.Common.{sym, ◌∙◌}
use Rattle.alf_spec.proofs.Accepted.{accepted-layout}
use Rattle.alf_spec.proofs.Scans.{scan_none, scan_fails, scan_more, scan_done}
use Rattle.alf_math.proofs.Grids.{few-ctbs}
use Rattle.alf_boundary.proofs.Tables.{tables_of_lem}
use Rattle.alf_sides.proofs.PlannedSides.{planned_sides}
use Rattle.alf_isolation.proofs.CtbTests.{isolated_test, in_region, address_passes_lem}
use Rattle.alf_isolation.proofs.regions.region_isolated.Goals as goal

pub grid_of-grid-requires : goal.grid_of-grid-requires
grid_of-grid-requires c = let ok = accepted-layout _ _ c.requires in (ok.sizes, ok.ctb_size)

pub plan_sides-requires : goal.plan_sides-requires
plan_sides-requires c =
    let g = c.grid_of-grid.ensures in
    (g, few-ctbs g, tables_of_lem _ _ g (accepted-layout _ _ c.requires))

pub loop-k-init : goal.loop-k-init
loop-k-init c = scan_none _ _

pub ctb_passes-requires : goal.ctb_passes-requires
ctb_passes-requires c = in_region _ _ c.requires _ c.grid_of-grid.ensures _ c.loop-k-test.true

pub returns-then-not-ctb_passes : goal.returns-then-not-ctb_passes
returns-then-not-ctb_passes c =
    let g = c.grid_of-grid.ensures in
    let below = c.loop-k-test.true in
    let sides = planned_sides c.args.layout.now g _ (c.plan_sides.ensures.1 _ _) _ below c.sides_at-sides.ensures in
    let answer = address_passes_lem c.args.layout.now _ c.requires _ g _ below sides c.ctb_passes.ensures in
    isolated_test _ _ c.requires _ g (scan_fails _ _ _ below (sym answer ∙ c.if-not-ctb_passes.true))

pub loop-k-preserved : goal.loop-k-preserved
loop-k-preserved c =
    let g = c.grid_of-grid.ensures in
    let below = c.loop-k-test.true in
    let sides = planned_sides c.args.layout.now g _ (c.plan_sides.ensures.1 _ _) _ below c.sides_at-sides.ensures in
    let answer = address_passes_lem c.args.layout.now _ c.requires _ g _ below sides c.ctb_passes.ensures in
    scan_more c.loop-k.invariant below (sym answer ∙ c.if-not-ctb_passes.false)

pub returns : goal.returns
returns c = isolated_test _ _ c.requires _ c.grid_of-grid.ensures (scan_done c.loop-k.invariant c.loop-k-test.false)
