use Rattle.std.proofs.Common.{◌≡◌, ◌+◌, ◌*◌, ◌≤◌, inr, ◌∙◌, arith}
use Rattle.alf_lists.proofs.Painted.{paint_is, paint_none, paint_call}
use Rattle.alf_lists.proofs.Regions.{rect_none, rect_more}
use Rattle.alf_pieces.specs.Copies.{extent}
use Rattle.alf_luma.proofs.SpreadRows.{row_value}
use Rattle.alf_luma.proofs.piece.filter_four.Goals as goal

pub loop-i-init : goal.loop-i-init
loop-i-init c = paint_none (λ k. rect_none _ _ _ _ _ k (inr (omega arith)))

pub filter_row-requires : goal.filter_row-requires
filter_row-requires c = (omega (arith, c.requires.0), c.requires.1, c.requires.2, c.loop-i.invariant.len ∙ c.requires.3)

pub loop-i-preserved : goal.loop-i-preserved
loop-i-preserved c =
    let p = c.args.piece in
    let left = p.columns.start in
    let n = extent p.columns in
    let top = p.rows.start + 4 * c.args.row in
    let i = c.loop-i.i in
    let across = p.across.numbers in
    let right : left + n ≤ p.picture.width = omega (arith, across.filled, across.high, across.inside) in
    let here : p.rows.start + (4 * c.args.row + i) ≡ top + i = omega arith in
    let next : top + i + 1 ≡ top + (i + 1) = omega arith in
    paint_call _ _ c.loop-i.invariant (rw here at c.filter_row.ensures)
    (λ k h t. row_value p.picture p.grid.ctb c.args.copy.now c.args.taps.now left n top (4 * c.args.row) i k right t)
    (λ k h. rw (← next) (rect_more p.picture.width left n top (top + i) right (omega arith) k))

pub returns : goal.returns
returns c = let done : c.loop-i.i ≡ 4 = omega arith in paint_is (rw done at c.loop-i.invariant)
