-- One row more is filtered. Assumes nothing.
use Rattle.std.proofs.Common.{◌≡◌, ◌/◌, length, inr, arith}
use Rattle.alf_math.proofs.Grids.{depth_bounds}
use Rattle.alf_lists.proofs.Painted.{paint_is, paint_none, paint_call}
use Rattle.alf_lists.proofs.Regions.{rect_none, rect_more}
use Rattle.alf_chroma.proofs.PieceRows.{Begun, row-ratio, narrow, last-column, in_plane_lem, row_small}
use Rattle.alf_chroma.proofs.PieceRows.{Bounds, row_bounds, row_reads, row_room_lem, row_sample_lem}
use Rattle.alf_chroma.proofs.piece.filter_rows.Goals as goal
use Rattle.alf_chroma.proofs.piece.filter_rows.Goals.{After-sub_height-ratio, After-rows_at-offsets}

-- what the rows are filtered from
begun : (c : After-sub_height-ratio) → let a = c.args in
    Begun a.picture a.grid a.columns a.rows a.copy.now a.taps.now (length a.output.now) c.extent-n.result
    (a.picture.width / c.sub_width.result) c.sub_height-ratio.result
begun c = record {
  work = c.requires;
  n_is = c.extent-n.ensures;
  width_is = rw c.sub_width.ensures.0;
  ratio_is = c.sub_height-ratio.ensures.0;
}

pub loop-y-init : goal.loop-y-init
loop-y-init c = paint_none (λ k. rect_none _ _ _ _ _ k (inr (omega arith)))

pub rows_at-offsets-requires : goal.rows_at-offsets-requires
rows_at-offsets-requires c =
    let B = begun (goal.at.rows_at-offsets-requires c).After-sub_height-ratio in
    let G = c.requires.picture.grid in
    let r = row-ratio B in
    (omega (arith, G.ctb_low), G.ctb_high, r.0, r.1, row_small B _ c.loop-y.auto.y c.loop-y-test.true)

-- what Table 46 says of the loop's row
table : (c : After-rows_at-offsets) → Bounds c.rows_at-offsets.result
table c = rw c.rows_at-offsets.ensures (row_bounds _ _)

pub chroma_starts-requires : goal.chroma_starts-requires
chroma_starts-requires c =
    let near = table (goal.at.chroma_starts-requires c).After-rows_at-offsets in
    let across = c.requires.across in
    let down = c.requires.down in
    (omega (arith, c.extent-n.ensures, across.small), omega (arith, down.small), omega arith, omega arith)

pub invariant_of-source : goal.invariant_of-source
invariant_of-source c =
    let near = table (goal.at.invariant_of-source c).After-rows_at-offsets in
    record { numbers = c.requires.numbers; shift_fits = near.2; depth_fits = (depth_bounds _ c.requires.picture.depth).1 }

pub plane_index-requires : goal.plane_index-requires
plane_index-requires c =
    let B = begun (goal.at.plane_index-requires c).After-sub_height-ratio in
    ((narrow B).0, row_small B _ c.loop-y.auto.y c.loop-y-test.true)

pub chroma_row-requires : goal.chroma_row-requires
chroma_row-requires c =
    let B = begun (goal.at.chroma_row-requires c).After-sub_height-ratio in
    let y = c.loop-y.auto.y in
    let at = c.plane_index.ensures in
    let reads = row_reads B c.loop-y.y y c.loop-y-test.true _ c.rows_at-offsets.ensures _ at in
    let room = row_room_lem B c.loop-y.y y c.loop-y-test.true _ c.rows_at-offsets.ensures _ at in
    let few = c.requires.across.small in
    (rw c.chroma_starts.ensures reads, omega (arith, c.extent-n.ensures, few), omega (arith, room, c.loop-y.invariant.len))

pub loop-y-preserved : goal.loop-y-preserved
loop-y-preserved c =
    let B = begun (goal.at.loop-y-preserved c).After-sub_height-ratio in
    let at = c.plane_index.ensures in
    paint_call _ _ c.loop-y.invariant (rw c.chroma_starts.ensures at c.chroma_row.ensures)
    (λ k h t. row_sample_lem B c.loop-y.y c.loop-y.auto.y c.loop-y-test.true _ c.rows_at-offsets.ensures _ at k t)
    (λ k h. rw at (rect_more _ _ _ _ _ (in_plane_lem B) c.loop-y.auto.y k))

pub returns : goal.returns
returns c =
    let B = begun (goal.at.returns c).After-sub_height-ratio in
    let all : c.loop-y.y ≡ c.args.rows.end = omega (arith, c.requires.down.filled) in
    rw (B.width_is, last-column B, all) at (paint_is c.loop-y.invariant)
