use Rattle.std.proofs.Common.{refl, ap, ◌∙◌, length, arith}
use Rattle.alf_spec.specs.Input.{Layout}
use Rattle.alf_spec.specs.Geometry.{class_plane}
use Rattle.alf_spec.specs.Process.{class_at, class_map}
use Rattle.alf_math.proofs.Grids.{few-ctbs}
use Rattle.alf_boundary.proofs.Tables.{tables_of_lem}
use Rattle.alf_pieces.specs.CtbRegions.{before_ctb_if}
use Rattle.alf_pieces.proofs.CtbPieces.{ctb-accepted, column_pieces, row_pieces}
use Rattle.alf_pieces.proofs.CtbRegions.{ctb-painted, ctbs_none, ctbs-next, ctb_passes_lem, all_painted}
use Rattle.alf_sides.proofs.PlannedSides.{planned_sides}
use Rattle.alf_class_map.proofs.ClassInputs.{whole-blocks, accepted-classes, accepted-frame, map-length, ctb-given}
use Rattle.alf_class_map.proofs.map.class_map.Invariants.{every}
use Rattle.alf_class_map.proofs.map.class_map.Goals as goal

pub grid-grid-requires : goal.grid-grid-requires
grid-grid-requires c =
    let picture = ap (λ (l : Layout). l.picture) c.layout.view_is in
    let ok = accepted-classes c.args.layout.now _ _ c.requires in
    rw picture (ok.sizes, ok.ctb_size)

pub plan_sides-requires : goal.plan_sides-requires
plan_sides-requires c =
    let picture = ap (λ (l : Layout). l.picture) c.layout.view_is in
    let ok = accepted-classes c.args.layout.now _ _ c.requires in
    let grid = rw picture at c.grid-grid.ensures in
    (grid, omega (arith, few-ctbs grid), tables_of_lem c.args.layout.now _ grid ok)

pub loop-k-init : goal.loop-k-init
loop-k-init c = ctbs_none _ _ _ _

pub invariant_of-frame : goal.invariant_of-frame
invariant_of-frame c =
    let picture = ap (λ (l : Layout). l.picture) c.layout.view_is in
    let grid = rw picture at c.grid-grid.ensures in
    record { accepted = rw picture (accepted-frame c.args.layout.now c.args.luma.now _ c.requires grid) }

pub class_ctb-requires : goal.class_ctb-requires
class_ctb-requires c =
    let picture = ap (λ (l : Layout). l.picture) c.layout.view_is in
    let grid = rw picture at c.grid-grid.ensures in
    rw (picture, c.through-axes.ensures)
    (ctb-given c.args.layout.now c.args.luma.now (length c.loop-k.map) (rw c.loop-k.invariant.len c.requires) grid
    c.sides_at-own.result c.loop-k.k c.loop-k-test.true)

pub loop-k-preserved : goal.loop-k-preserved
loop-k-preserved c =
    let l = c.args.layout.now in
    let k = c.loop-k.k in
    let old = c.loop-k.invariant in
    let ok = accepted-classes l _ _ c.requires in
    let picture = ap (λ (l : Layout). l.picture) c.layout.view_is in
    let grid = rw picture at c.grid-grid.ensures in
    let sides = planned_sides l grid c.plan_sides.new.table (c.plan_sides.ensures.1 _ _) k c.loop-k-test.true c.sides_at-own.ensures in
    let own = ctb-accepted ok sides in
    let size = old.len ∙ map-length l c.args.luma.now _ c.requires in
    let written = rw (picture, c.through-axes.ensures) at c.class_ctb.ensures in
    let done = ctb-painted l ok 4 4 4 whole-blocks whole-blocks c.loop-k.map size grid (class_at l c.args.luma.now) k
    (written l _ own (column_pieces own grid 4 refl) (row_pieces own grid 4 refl)) in
    ctbs-next l (class_plane l) every (class_at l c.args.luma.now) k old
    (ctb_passes_lem l (class_plane l) every (class_at l c.args.luma.now) k c.loop-k.map refl done)

pub returns : goal.returns
unfolding class_map before_ctb_if
returns c =
    let l = c.args.layout.now in
    let ok = accepted-classes l _ _ c.requires in
    let picture = ap (λ (l : Layout). l.picture) c.layout.view_is in
    let grid = rw picture at c.grid-grid.ensures in
    all_painted l ok 4 4 4 whole-blocks whole-blocks _ (map-length l _ _ c.requires) grid _ c.loop-k.invariant (omega arith)
