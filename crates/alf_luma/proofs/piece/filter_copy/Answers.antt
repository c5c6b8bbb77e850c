use Rattle.std.proofs.Common.{◌≡◌, ℕ, List, ◌+◌, ◌*◌, ◌/◌, ◌<◌, ℤ, refl, inr, ◌∙◌, arith}
use Rattle.alf_spec.specs.declared.Grid.{Grid}
use Rattle.alf_spec.specs.declared.Picture.{Picture}
use Rattle.alf_lists.proofs.Painted.{paint_is, paint_none}
use Rattle.alf_lists.proofs.PaintedRects.{paint_stacked}
use Rattle.alf_lists.proofs.Regions.{rect_none}
use Rattle.alf_pieces.specs.Copies.{extent}
use Rattle.alf_classify.proofs.PieceRows.{blocks}
use Rattle.alf_taps.specs.Spread.{TapNumbers}
use Rattle.alf_luma.specs.Samples.{BlockRowInput}
use Rattle.alf_luma.proofs.BlockRows.{spread_ready, taps_valid, blocks-painted}
use Rattle.alf_luma.proofs.piece.filter_copy.Goals as goal

-- what a later row of blocks is filtered with
again : {p : Picture} {g : Grid} {filters : List ℤ} {orders : List ℕ} {taps0 taps : List ℤ} {m n : ℕ}
    → BlockRowInput p g filters orders taps0 m → TapNumbers taps → n ≡ m → BlockRowInput p g filters orders taps n
again work spread same = record {
  picture = work.picture;
  numbers = work.numbers;
  order = work.order;
  spread = spread;
  output_length = same ∙ work.output_length;
}

pub extent-n-requires : goal.extent-n-requires
extent-n-requires c = omega (arith, c.args.piece.across.numbers.filled)

pub extent-count-requires : goal.extent-count-requires
extent-count-requires c = omega (arith, c.args.piece.down.numbers.filled)

pub loop-row-init : goal.loop-row-init
loop-row-init c = record {
  numbers = c.requires.0.spread;
  painted = paint_none (λ k. rect_none _ _ _ _ _ k (inr (omega arith)));
}

pub spread-requires : goal.spread-requires
spread-requires c =
    let pre = c.requires in
    let work = again pre.0 c.loop-row.invariant.numbers c.loop-row.invariant.painted.len in
    rw c.extent-n.ensures (spread_ready c.args.piece c.args.copy.now c.args.map.now c.loop-row.row work pre.2 pre.3
    (omega (arith, c.extent-count.ensures)))

pub filter_four-requires : goal.filter_four-requires
filter_four-requires c =
    let pre = c.requires in
    let work = again pre.0 c.loop-row.invariant.numbers c.loop-row.invariant.painted.len in
    let below : c.loop-row.row < extent c.args.piece.rows / 4 = omega (arith, c.extent-count.ensures) in (
      below,
      pre.1,
      taps_valid c.args.piece c.args.copy.now c.args.map.now c.loop-row.row work pre.2 pre.3 below
          (rw c.extent-n.ensures at c.spread.ensures),
      work.output_length,
    )

pub loop-row-preserved : goal.loop-row-preserved
loop-row-preserved c =
    let pre = c.requires in
    let rows = c.args.piece.rows in
    let row = c.loop-row.row in
    let work = again pre.0 c.loop-row.invariant.numbers c.loop-row.invariant.painted.len in
    let below : row < extent rows / 4 = omega (arith, c.extent-count.ensures) in
    let filled = rw c.extent-n.ensures at c.spread.ensures in
    let next : rows.start + 4 * row + 4 ≡ rows.start + 4 * (row + 1) = omega arith in
    record {
      numbers = taps_valid c.args.piece c.args.copy.now c.args.map.now c.loop-row.row work pre.2 pre.3 below filled;
      painted = rw next at (paint_stacked _ _ _ _ _ _ c.loop-row.invariant.painted
          (blocks-painted c.args.piece c.args.copy.now c.args.map.now row work pre.2 pre.3 below filled _ c.filter_four.ensures)
          refl (omega arith) (omega arith));
    }

pub returns : goal.returns
returns c =
    let inv = c.loop-row.invariant in
    let b = blocks c.args.piece.down in
    let last : c.args.piece.rows.start + 4 * c.loop-row.row ≡ c.args.piece.rows.end =
    omega (arith, c.extent-count.ensures, b.whole, c.args.piece.down.numbers.filled) in
    (paint_is (rw last at inv.painted), inv.numbers)
