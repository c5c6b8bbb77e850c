-- The chain tests every clip. Assumes nothing.
use Rattle.std.proofs.Common.{rules, tests, arith, refl, ◌∙◌, ℕ, List}
use Rattle.std.proofs.lemmas.Iterator.{YieldsList-from_range}
use Rattle.std.proofs.lemmas.Iterator.Search.{all_from_yields_List}
use Rattle.alf_bank.specs.Reading.{clip_fits}
use Rattle.alf_bank.proofs.Chains.{all_range}
use Rattle.alf_op_bank_read.proofs.FieldTests.{clips_are}
use Rattle.alf_op_bank_read.proofs.fields.clips_valid.Goals as goal

pub returns : goal.returns
unfolding clip_fits
returns c =
    let clips : ℕ = c.shape_of-clips.result.clips in
    let field : List ℕ = c.args.field.now in
    clips_are field c.args.limit c.shape_of-clips.ensures.2
    (all_from_yields_List (clip_fits c.args.limit field) _ _ _ c.all.ensures.ran (YieldsList-from_range 0 clips clips refl (omega arith))
    (λ x b q k. search (rules, tests))
    ∙ all_range (clip_fits c.args.limit field) clips)
