use Rattle.std.proofs.Common.{◌≡◌, ◌+◌, ◌-◌, ◌∙◌, ℕ, length, ap, arith}
use Rattle.alf_lists.proofs.Painted.{paint_is, paint_none, paint_set}
use Rattle.alf_lists.proofs.Regions.{run_none, run_more}
use Rattle.alf_classify.specs.Windows.{difference_at}
use Rattle.alf_classify.proofs.differences.second_differences.Goals as goal

pub loop-x-init : goal.loop-x-init
loop-x-init c = paint_none (run_none _)

pub loop-x-preserved : goal.loop-x-preserved
loop-x-preserved c =
    let here : c.args.margin + c.loop-x.x ≡ c.args.at + c.args.margin + c.loop-x.x - c.args.at = omega arith in
    paint_set _ _ c.loop-x.invariant (omega arith)
    (c.difference.ensures ∙ ap (λ (k : ℕ). difference_at c.args.copy.now c.args.step k) here) (λ k h. run_more _ _ k)

pub returns : goal.returns
returns c =
    let all : c.loop-x.x ≡ length c.args.copy.now - (c.args.margin + c.args.margin) = omega arith in
    rw all at (paint_is c.loop-x.invariant)
