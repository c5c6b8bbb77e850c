-- The chain tests each entry with the one before. Assumes nothing.
use Rattle.std.proofs.Common.{rules, tests, ◌+◌, ◌∙◌, get_or, leb}
use Rattle.std.proofs.lemmas.Iterator.Search.{all_from_yields_List}
use Rattle.alf_spec.specs.Faults.{apart_at}
use Rattle.alf_validate_layout.proofs.Every.{YieldsList-from_windows, neighbours-from_all}
use Rattle.alf_validate_layout.proofs.virtual_boundaries.each_apart.Goals as goal

pub returns : goal.returns
unfolding apart_at
returns c =
    all_from_yields_List (λ p. leb (get_or p 0 0 + c.args.ctb) (get_or p 1 0)) _ _ _ c.all.ensures.ran
    (YieldsList-from_windows c.args.list.now (cc) cc)
    (λ x b q k. search (rules, tests))
    ∙ neighbours-from_all (λ first second. leb (first + c.args.ctb) second) _
