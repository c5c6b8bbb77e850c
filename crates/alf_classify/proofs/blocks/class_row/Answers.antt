use Rattle.std.proofs.Common.{refl, ap, ◌-◌, ◌+◌, ◌*◌, arith}
use Rattle.alf_spec.specs.declared.Sums.{Sums}
use Rattle.alf_spec.specs.Classes.{class_of_sums}
use Rattle.alf_spec.specs.Process.{class_number}
use Rattle.alf_lists.proofs.Painted.{paint_of, paint_is, paint_same}
use Rattle.alf_lists.proofs.Regions.{run_facts}
use Rattle.alf_classify.proofs.ColumnSums.{sums_of_block}
use Rattle.alf_classify.proofs.blocks.class_row.Goals as goal

-- the sums of columns in each direction, and the blocks' numbers from them
pub returns : goal.returns
returns c =
    paint_is (paint_same (paint_of c.class_run.ensures) (λ k l. refl) (λ k l t.
    let f = run_facts c.args.at c.args.count k t in
    ap (λ (s : Sums). class_number (class_of_sums c.args.depth c.args.window.factor s))
    (sums_of_block _ _ _ (4 * c.args.count + 3) (4 * (k - c.args.at)) (omega arith) c.args.from _ _ (omega arith)
    c.column_sums.ensures c.column_sums-2.ensures c.column_sums-3.ensures c.column_sums-4.ensures)))
