use Rattle.std.proofs.Common.{◌≡◌, ap, ◌∙◌, arith}
use Rattle.alf_spec.specs.Input.{Layout, Input}
use Rattle.alf_ctb.proofs.TableFilters.{fixed_loaded, luma_loaded, chroma_loaded, cross_loaded}
use Rattle.alf_ctb.proofs.tables.load.Goals as goal

pub load_fixed-requires : goal.load_fixed-requires
load_fixed-requires c =
    let depth : c.layout.inside.picture.bit_depth ≡ c.args.input.now.layout.picture.bit_depth =
    ap (λ (l : Layout). l.picture.bit_depth) c.layout.view_is ∙ ap (λ (i : Input). i.layout.picture.bit_depth) c.input.view_is in
    rw depth (omega arith, rw c.in-Luma.is at c.requires.2, c.requires.4)

pub luma_run-requires : goal.luma_run-requires
luma_run-requires c = omega (arith, c.luma_set-set.ensures, c.requires.1.luma_sets, c.requires.1.slice.slice_range 0)

pub chroma_run-run-requires : goal.chroma_run-run-requires
chroma_run-run-requires c =
    let is = rw c.in-Chroma.is at c.requires.0 in
    (is, c.requires.1.ctb_numbers, c.requires.1.alternatives _ is)

pub cross_run-run-requires : goal.cross_run-run-requires
cross_run-run-requires c =
    let is = rw c.in-CrossComponent.is at c.requires.0 in
    (is, c.requires.1.ctb_numbers, rw c.in-CrossComponent.is at c.requires.3, c.requires.1.cross_indices _ is)

pub returns-then-set-lt-FIXED_SETS : goal.returns-then-set-lt-FIXED_SETS
returns-then-set-lt-FIXED_SETS c =
    let depth : c.layout.inside.picture.bit_depth ≡ c.args.input.now.layout.picture.bit_depth =
    ap (λ (l : Layout). l.picture.bit_depth) c.layout.view_is ∙ ap (λ (i : Input). i.layout.picture.bit_depth) c.input.view_is in
    fixed_loaded _ _ _ _ _ _ _ _ _ _ c.requires.1 c.requires.4 c.in-Luma.is c.requires.2 c.luma_set-set.ensures (omega arith)
    (rw depth at c.load_fixed.ensures)

pub returns-else-set-lt-FIXED_SETS : goal.returns-else-set-lt-FIXED_SETS
returns-else-set-lt-FIXED_SETS c =
    luma_loaded _ _ _ _ _ _ _ _ _ _ c.requires.1 c.requires.4 c.load_from_aps.ensures c.in-Luma.is c.luma_run.ensures.0
    c.luma_set-set.ensures (omega arith)

pub returns-in-Chroma : goal.returns-in-Chroma
returns-in-Chroma c =
    chroma_loaded _ _ _ _ _ _ _ _ _ _ c.requires.1 c.requires.4 c.load_from_aps-in-Chroma.ensures c.requires.0 c.in-Chroma.is
    c.chroma_run-run.ensures.0

pub returns-in-CrossComponent : goal.returns-in-CrossComponent
returns-in-CrossComponent c =
    cross_loaded _ _ _ _ _ _ _ _ _ _ c.requires.1 c.requires.4 c.load_from_aps-in-CrossComponent.ensures c.requires.0
    c.in-CrossComponent.is c.cross_run-run.ensures.0 c.requires.3 c.requires.5
