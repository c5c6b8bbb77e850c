-- The chain tests each entry with the one before. Assumes nothing.
use Rattle.std.proofs.Common.{rules, tests, ◌+◌, ◌||◌, ◌∙◌, get_or, eqb}
use Rattle.std.proofs.lemmas.Iterator.Search.{all_from_yields_List}
use Rattle.alf_spec.specs.Faults.{follows_at}
use Rattle.alf_validate_layout.proofs.Every.{YieldsList-from_windows, neighbours-from_all}
use Rattle.alf_validate_layout.proofs.tiles.each_follows.Goals as goal

pub returns : goal.returns
unfolding follows_at
returns c =
    all_from_yields_List (λ p. eqb (get_or p 1 0) (get_or p 0 0) || eqb (get_or p 1 0) (get_or p 0 0 + 1)) _ _ _ c.all.ensures.ran
    (YieldsList-from_windows c.args.list.now (cc) cc)
    (λ x b q k. search (rules, tests))
    ∙ neighbours-from_all (λ last next. eqb next last || eqb next (last + 1)) _
