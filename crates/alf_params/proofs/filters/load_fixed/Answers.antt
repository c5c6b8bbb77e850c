-- A turn loads the coefficients of a class, and then its clips.
use Rattle.std.proofs.Common.{◌≡◌, ap}
use mir.Syntax.{w16}
use Rattle.alf_spec.specs.Input.{Input}
use Rattle.alf_math.proofs.Magnitude.{returned}
use Rattle.alf_lists.proofs.Painted.{fill_none}
use Rattle.alf_lists.proofs.Regions.{run_none}
use Rattle.alf_params.proofs.FixedFilters.{fixed_more}
use Rattle.alf_params.proofs.filters.load_fixed.Goals as goal

pub loop-class-init : goal.loop-class-init
loop-class-init c = fill_none (run_none _)

pub loop-class-preserved : goal.loop-class-preserved
loop-class-preserved c =
    let a = c.args in
    let clip = c.fixed_clip-clip in
    let same-filters : c.input.inside.fixed_filters.now ≡ a.input.now.fixed_filters = ap (λ (i : Input). i.fixed_filters) c.input.view_is in
    let same-map : c.input.inside.fixed_map.now ≡ a.input.now.fixed_map = ap (λ (i : Input). i.fixed_map) c.input.view_is in
    fixed_more a.depth a.set a.input.now.fixed_filters a.input.now.fixed_map c.loop-class.class c.loop-class.invariant
    (rw (same-filters, same-map) at c.copy_numbers.ensures) (rw (returned w16 clip.type_inv clip.ensures) at c.fill.ensures)
