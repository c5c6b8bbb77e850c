-- The layout is rejected, and its tables are not judged. Assumes nothing.
use Rattle.std.proofs.Common.{rules, ◌≡◌, sym, ◌∙◌}
use Rattle.alf_spec.specs.Answers.{number_of, fault_number}
use Rattle.alf_validate.proofs.Lowest.{filter_stops}
use Rattle.alf_validate.proofs.judges.judge_filter.Goals as goal

pub returns-in_err-layout_fault : goal.returns-in_err-layout_fault
returns-in_err-layout_fault c =
    let view = c.input.view_is in
    let told : number_of c.from_residual.result ≡ fault_number c.in_err-layout_fault.field-0.0 = search rules in
    rw (← view)
    (told
    ∙ sym (filter_stops _ _ _ _ (rw (← view) at c.filter_tables_fit.ensures) c.args.filter c.args.output_length
    c.own_component-component_valid.ensures (rw (← view) at c.own_lengths.ensures) _ c.in_err-layout_fault.ensures))
