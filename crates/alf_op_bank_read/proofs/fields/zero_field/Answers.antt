-- The chain tests every byte after the leading numbers. Assumes nothing.
use Rattle.std.proofs.Common.{rules, tests, arith, ◌≡◌, ◌∙◌, ◌+◌, ◌-◌, ◌*◌, ℕ, List, take, drop}
use Rattle.std.specs.Prelude.{eqb}
use Rattle.std.proofs.lemmas.Iterator.{YieldsList-from_slice}
use Rattle.std.proofs.lemmas.Iterator.Search.{all_from_yields_List}
use Rattle.alf_spec.proofs.Tests.{all_same}
use Rattle.alf_bank.specs.Filters.{shape_of}
use Rattle.alf_bank.specs.Reading.{tag_of}
use Rattle.alf_bank.proofs.Chains.{all_part}
use Rattle.alf_op_bank_read.proofs.FieldTests.{zero_from, zeros_are}
use Rattle.alf_op_bank_read.proofs.fields.zero_field.Goals as goal

pub returns : goal.returns
returns c =
    let field : List ℕ = c.args.field.now in
    let n : ℕ = 3 + c.size_of-end.result - (3 + c.shape_of-start.result.leads) in
    let part : List ℕ = take n (drop (3 + c.shape_of-start.result.leads) field) in
    let len : n ≡ (shape_of (tag_of field)).coeffs + 2 * (shape_of (tag_of field)).clips = omega arith in
    zeros_are field len
    (all_from_yields_List (λ b. eqb b 0) _ _ _ c.all.ensures.ran (YieldsList-from_slice part cc) (λ x b q k. search (rules, tests))
    ∙ all_part (λ b. eqb b 0) field (3 + c.shape_of-start.result.leads) n (omega arith)
    ∙ all_same n (λ j h.
    let e : 3 + c.shape_of-start.result.leads + j ≡ 3 + (c.shape_of-start.result.leads + j) = omega arith in
    rw e (zero_from field j c.shape_of-start.ensures.0)))
