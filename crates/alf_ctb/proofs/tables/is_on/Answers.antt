use Rattle.std.proofs.Common.{sym, ap, ◌∙◌}
use Rattle.alf_spec.specs.declared.Filter.{Filter}
use Rattle.alf_ctb.specs.Filters.{is_on}
use Rattle.alf_ctb.proofs.tables.is_on.Goals as goal

pub chroma_on-requires : goal.chroma_on-requires
chroma_on-requires c = (c.requires.1, rw c.in-Chroma.is at c.requires.0)

pub cross_on-requires : goal.cross_on-requires
cross_on-requires c = (c.requires.1, rw c.in-CrossComponent.is at c.requires.0)

pub returns-in-Luma : goal.returns-in-Luma
returns-in-Luma c = λ i x same at. c.luma_on.ensures i x same at ∙ ap (λ (f : Filter). is_on f i x) (sym c.in-Luma.is)

pub returns-in-Chroma : goal.returns-in-Chroma
returns-in-Chroma c = λ i x same at. c.chroma_on.ensures i x same at ∙ ap (λ (f : Filter). is_on f i x) (sym c.in-Chroma.is)

pub returns-in-CrossComponent : goal.returns-in-CrossComponent
returns-in-CrossComponent c =
    λ i x same at. c.cross_on.ensures i x same at ∙ ap (λ (f : Filter). is_on f i x) (sym c.in-CrossComponent.is)
