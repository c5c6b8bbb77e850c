-- The chain finds where the search stops. Assumes nothing.
use Rattle.std.proofs.Common.{rules, tests, refl, sym, ◌≡◌, ◌∙◌, ◌-◌, List, ℤ, ℕ, not}
use Rattle.std.specs.Option.{option_map}
use Rattle.std.proofs.lemmas.Iterator.Adapters.{option_map_id}
use Rattle.std.proofs.lemmas.Iterator.{YieldsList-from_range}
use Rattle.std.proofs.lemmas.Iterator.Search.{find_from_yields_List}
use Rattle.alf_cross_coeffs.specs.Offenders.{valid_at}
use Rattle.alf_cross_coeffs.proofs.Searches.{search_found}
use Rattle.alf_cross_coeffs.proofs.offenders.first_offender.Goals as goal

pub returns : goal.returns
returns c =
    let bank : List ℤ = c.args.bank.now in
    let from : ℕ = c.args.from in
    let found : option_map (λ (n : ℕ). n) c.find.result ≡ _ =
    find_from_yields_List (λ n. not (valid_at bank n)) _ _ _ c.find.ensures.ran
    (YieldsList-from_range from 64 (64 - from) refl refl) (λ x b q k. search (rules, tests)) in
    sym (option_map_id c.find.result) ∙ found ∙ search_found bank from
