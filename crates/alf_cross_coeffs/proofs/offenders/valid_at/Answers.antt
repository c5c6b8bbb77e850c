-- The chain tests the seven coefficients. Assumes nothing.
use Rattle.std.proofs.Common.{rules, tests, refl, ◌∙◌, pos, get_or, ◌+◌, ◌*◌, ◌/◌, ◌%◌, Bool, List, ℤ, ℕ}
use Rattle.std.proofs.lemmas.Iterator.{YieldsList-from_range}
use Rattle.std.proofs.lemmas.Iterator.Search.{all_from_yields_List}
use Rattle.alf_spec.specs.Faults.{cross_coeff_valid, cross_filter_valid}
use Rattle.alf_spec.proofs.Tests.{all_same}
use Rattle.alf_cross_coeffs.specs.Offenders.{valid_at}
use Rattle.alf_cross_coeffs.proofs.Ranges.{all_range}
use Rattle.alf_cross_coeffs.proofs.Searches.{place_of}
use Rattle.alf_cross_coeffs.proofs.offenders.valid_at.Goals as goal

-- coefficient j of the filter at place n
abbrev test : List ℤ → ℕ → ℕ → Bool
test bank n j = cross_coeff_valid (get_or bank (752 * (n / 8) + (696 + 7 * (n % 8)) + j) (pos 0))

pub returns : goal.returns
unfolding valid_at cross_filter_valid
returns c =
    let bank : List ℤ = c.args.bank.now in
    let n : ℕ = c.args.n in
    all_from_yields_List (test bank n) _ _ _ c.all.ensures.ran (YieldsList-from_range 0 7 7 refl refl) (λ x b q k. search (rules, tests))
    ∙ all_range (test bank n) 7 ∙ all_same 7 (λ j h. rw (place_of n j))
