-- The fold tests each place. Assumes nothing.
use Rattle.std.proofs.Common.{rules, tests, ◌&&◌, ◌∙◌, refl, arith}
use Rattle.std.proofs.lemmas.Iterator.{YieldsList-from_range}
use Rattle.std.proofs.lemmas.Iterator.Consumers.{fold_from_yields_List}
use Rattle.alf_spec.specs.Faults.{ctb_params_valid_at}
use Rattle.alf_validate_tables.proofs.Places.{below-from_fold}
use Rattle.alf_validate_tables.proofs.parameters.ctb_params_valid.Goals as goal

pub returns : goal.returns
returns c =
    fold_from_yields_List _ (λ b k. b && ctb_params_valid_at c.args.input.now k) _ _ c.fold.ensures.ran
    (YieldsList-from_range 0 c.args.count c.args.count refl (omega arith))
    (λ b k r q h. search (rules, tests))
    ∙ below-from_fold (ctb_params_valid_at c.args.input.now) _
