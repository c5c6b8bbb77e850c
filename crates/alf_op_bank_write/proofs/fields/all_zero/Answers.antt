-- The chain tests every number. Assumes nothing.
use Rattle.std.proofs.Common.{rules, tests, arith, refl, ◌∙◌, ℕ, List, ℤ}
use Rattle.std.proofs.lemmas.Iterator.{YieldsList-from_range}
use Rattle.std.proofs.lemmas.Iterator.Search.{all_from_yields_List}
use Rattle.alf_bank.specs.Writing.{zero_at}
use Rattle.alf_bank.proofs.Chains.{all_range}
use Rattle.alf_op_bank_write.proofs.FieldBytes.{zeros_all}
use Rattle.alf_op_bank_write.proofs.fields.all_zero.Goals as goal

pub returns : goal.returns
returns c =
    let bank : List ℤ = c.args.filter.bank.now in
    let n : ℕ = c.count_of.result in
    zeros_all bank c.args.filter.id c.count_of.ensures.0
    (all_from_yields_List (zero_at bank c.args.filter.id) _ _ _ c.all.ensures.ran (YieldsList-from_range 0 n n refl (omega arith))
    (λ x b q k. search (rules, tests))
    ∙ all_range (zero_at bank c.args.filter.id) n)
