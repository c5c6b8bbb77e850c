use Rattle.std.proofs.Common.{◌≡◌, ◌+◌, ◌-◌, ◌*◌, ◌∙◌, ℕ, ap, arith}
use Rattle.alf_spec.specs.Classes.{class_of_sums}
use Rattle.alf_spec.specs.Process.{class_number}
use Rattle.alf_lists.proofs.Painted.{paint_is, paint_none, paint_set}
use Rattle.alf_lists.proofs.Regions.{run_none, run_more}
use Rattle.alf_classify.specs.Windows.{column_sums}
use Rattle.alf_classify.proofs.blocks.class_run.Goals as goal

pub loop-m-init : goal.loop-m-init
loop-m-init c = paint_none (run_none _)

pub loop-m-preserved : goal.loop-m-preserved
loop-m-preserved c =
    let here : 4 * c.loop-m.m ≡ 4 * (c.args.at + c.loop-m.m - c.args.at) = omega arith in
    paint_set _ _ c.loop-m.invariant (omega arith)
    (c.block_class.ensures
    ∙ ap (λ (k : ℕ). class_number (class_of_sums c.args.scale.depth c.args.scale.factor (column_sums c.args.columns.now k))) here)
    (λ k h. run_more _ _ k)

pub returns : goal.returns
returns c =
    let all : c.loop-m.m ≡ c.args.count = omega arith in
    rw all at (paint_is c.loop-m.invariant)
