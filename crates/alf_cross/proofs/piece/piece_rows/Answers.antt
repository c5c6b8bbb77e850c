-- One row more is corrected. Assumes nothing.
use Rattle.std.proofs.Common.{◌≡◌, ◌/◌, ◌≤◌, ◌<◌, inr, arith}
use Rattle.alf_spec.specs.Geometry.{sub_width, sub_height}
use Rattle.alf_spec.proofs.Ratios.{chroma_ratios}
use Rattle.alf_math.proofs.Grids.{depth_bounds}
use Rattle.alf_lists.proofs.Painted.{paint_is, paint_none, paint_call}
use Rattle.alf_lists.proofs.Regions.{rect_none, rect_more}
use Rattle.alf_cross.proofs.TapSums.{seven-small}
use Rattle.alf_cross.proofs.PieceRows.{Own, own, row_fits, row_inside, row_value}
use Rattle.alf_cross.proofs.piece.piece_rows.Goals as goal
use Rattle.alf_cross.proofs.piece.piece_rows.Goals.{Start, In-loop-v}

pub invariant_of-source : goal.invariant_of-source
invariant_of-source c =
    let W = c.requires.0 in
    let depth = depth_bounds _ W.picture.depth in
    record {
      samples = W.chroma_samples;
      small = rw c.coefficients.ensures (seven-small c.args.filters.now W.coefficients);
      depth_low = omega arith;
      depth_high = depth.1;
    }

-- the piece in the chroma plane: its columns
across : (c : Start) → Own (sub_width c.args.piece.picture) c.args.piece.picture.width c.args.piece.columns
across c = own (sub_width c.args.piece.picture) (chroma_ratios c.args.piece.picture).0 c.args.piece.across

-- the piece in the chroma plane: its rows
down : (c : Start) → Own (sub_height c.args.piece.picture) c.args.piece.picture.height c.args.piece.rows
down c = own (sub_height c.args.piece.picture) (chroma_ratios c.args.piece.picture).1 c.args.piece.down

-- the loop's row lies in the piece
inside : (c : In-loop-v) → let a = c.args.piece in
    (a.rows.start / sub_height a.picture ≤ c.loop-v.v) × (c.loop-v.v < a.rows.end / sub_height a.picture)
inside c = rw (← c.sub_height-ratio.ensures.0) (c.loop-v.auto.v, c.loop-v-test.true)

pub loop-v-init : goal.loop-v-init
loop-v-init c = rw c.sub_height-ratio.ensures.0 (paint_none (λ k. rect_none _ _ _ _ _ k (inr (omega arith))))

pub piece_row-requires : goal.piece_row-requires
piece_row-requires c =
    let here = inside (goal.at.piece_row-requires c).In-loop-v in
    here

pub cross_row-requires : goal.cross_row-requires
cross_row-requires c =
    let a = c.args.piece in
    let here = inside (goal.at.cross_row-requires c).In-loop-v in
    let W = c.requires.0 in
    let fits = row_fits a.picture c.args.piece.across c.args.piece.down c.loop-v.v here.0 here.1 in
    rw c.piece_row.ensures (
      row_inside a.picture c.args.piece.across c.args.piece.down c.loop-v.v here.0 here.1 a.grid.ctb c.requires.1,
      omega (arith, W.chroma_length),
      omega (arith, W.output_length, c.loop-v.invariant.len),
    )

pub loop-v-preserved : goal.loop-v-preserved
loop-v-preserved c =
    let a = c.args.piece in
    let at = goal.at.loop-v-preserved c in
    let here = inside at.In-loop-v in
    let columns = across at.Start in
    paint_call _ _ c.loop-v.invariant (rw (c.piece_row.ensures, c.coefficients.ensures) at c.cross_row.ensures)
    (λ k h. row_value a.picture c.args.piece.across c.args.piece.down c.loop-v.v here.0 here.1 a.grid.ctb _ _ _ k)
    (λ k h. rect_more _ _ _ _ _ (omega (arith, columns.last, columns.upto)) here.0 k)

pub returns : goal.returns
returns c =
    let at = goal.at.returns c in
    let rows = down at.Start in
    let all : c.loop-v.v ≡ c.args.piece.rows.end / c.sub_height-ratio.result =
    omega (arith, rw (← c.sub_height-ratio.ensures.0) at rows.last) in
    rw ((across at.Start).last, all, c.sub_height-ratio.ensures.0) at (paint_is c.loop-v.invariant)
