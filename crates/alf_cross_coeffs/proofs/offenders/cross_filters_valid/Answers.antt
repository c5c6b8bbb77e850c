-- The search from the first place finds nothing exactly where every filter passes. Assumes nothing.
use Rattle.std.proofs.Common.{rules, ◌≡◌, ◌∙◌, ap}
use Rattle.std.specs.Option.{is_none}
use Rattle.alf_cross_coeffs.proofs.Searches.{search_none}
use Rattle.alf_cross_coeffs.proofs.offenders.cross_filters_valid.Goals as goal

pub returns : goal.returns
returns c =
    let none : c.is_none.result ≡ is_none c.first_offender.result = search rules in
    none ∙ ap is_none c.first_offender.ensures ∙ search_none c.args.bank.now
