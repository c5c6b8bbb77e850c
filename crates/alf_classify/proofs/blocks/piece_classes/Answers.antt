use Rattle.std.proofs.Common.{◌≡◌, ◌+◌, ◌/◌, ◌≤◌, inr, arith}
use Rattle.alf_math.proofs.Grids.{depth_bounds}
use Rattle.alf_lists.proofs.Painted.{paint_is, paint_none, paint_call}
use Rattle.alf_lists.proofs.Regions.{rect_none, rect_more}
use Rattle.alf_pieces.specs.Copies.{extent}
use Rattle.alf_classify.proofs.PieceRows.{blocks, prepared, row_inside, row_ready, row_number}
use Rattle.alf_classify.proofs.WindowSums.{RowBounds, row_bounds}
use Rattle.alf_classify.proofs.blocks.piece_classes.Goals as goal

pub loop-row-init : goal.loop-row-init
loop-row-init c = paint_none (λ k. rect_none _ _ _ _ _ k (inr (omega arith)))

pub row_window-window-requires : goal.row_window-window-requires
row_window-window-requires c =
    let inside = row_inside c.requires.0.picture c.requires.2 c.loop-row-test.true in
    omega (arith, c.requires.0.picture.grid.ctb_low, c.requires.0.picture.grid.ctb_high, inside)

pub window_index-from-requires : goal.window_index-from-requires
window_index-from-requires c =
    let inside = row_inside c.requires.0.picture c.requires.2 c.loop-row-test.true in
    let bounds : RowBounds c.row_window-window.result = rw c.row_window-window.ensures (row_bounds _ _ _) in
    (omega arith, omega arith, omega (arith, c.extent-width.ensures, (blocks c.requires.1).few))

pub class_row-requires : goal.class_row-requires
class_row-requires c =
    let P = prepared c.requires.1 c.requires.2 c.args.copy.now c.all_differences.new.differences c.extent-width.ensures c.extent.ensures
    c.requires.3 c.requires.0.copy_room c.requires.0.difference_room c.all_differences.ensures in
    let bounds : RowBounds c.row_window-window.result = rw c.row_window-window.ensures (row_bounds _ _ _) in
    let depth = depth_bounds _ c.requires.0.picture.depth in
    let ready = row_ready c.args.picture c.args.grid.ctb _ _ _ P c.loop-row.row c.loop-row-test.true _ c.row_window-window.ensures
    _ _ c.window_index-from.ensures _ _ _ (omega (arith, c.extent-width.ensures, c.requires.4.across)) c.map_index-at.ensures
    c.requires.4.down in
    rw c.from-depth.ensures (P.few, ready.0, bounds.2, bounds.3, bounds.4, depth.0, depth.1, omega (arith, ready.1), ready.2, ready.3)

pub loop-row-preserved : goal.loop-row-preserved
loop-row-preserved c =
    let P = prepared c.requires.1 c.requires.2 c.args.copy.now c.all_differences.new.differences c.extent-width.ensures c.extent.ensures
    c.requires.3 c.requires.0.copy_room c.requires.0.difference_room c.all_differences.ensures in
    let across : c.args.left + c.extent-width.result / 4 ≤ c.args.map_columns =
    omega (arith, c.extent-width.ensures, c.requires.4.across) in
    let next : c.args.top + (c.loop-row.row + 1) ≡ c.args.top + c.loop-row.row + 1 = omega arith in
    paint_call _ _ c.loop-row.invariant (rw c.from-depth.ensures at c.class_row.ensures)
    (λ k h t. row_number c.args.picture c.args.grid.ctb _ _ _ P c.loop-row.row c.loop-row-test.true _ c.row_window-window.ensures
    _ _ c.window_index-from.ensures _ _ _ across c.map_index-at.ensures c.args.columns (omega (arith, c.extent-width.ensures)) k t)
    (λ k h. rw (c.map_index-at.ensures, next) (rect_more _ _ _ _ _ across (omega arith) k))

pub returns : goal.returns
returns c =
    let all : c.loop-row.row ≡ extent c.args.rows / 4 = omega arith in
    rw (c.extent-width.ensures, all) at (paint_is c.loop-row.invariant)
