-- The first entry that passes, with its cause. Assumes nothing.
use Rattle.std.proofs.Common.{rules, ◌≡◌}
use Rattle.std.specs.Option.{option_map}
use Rattle.alf_spec.specs.declared.ClipCause.TheVariants.{VirtualBoundary}
use Rattle.alf_spec.specs.Boundary.{virtual_clip}
use Rattle.alf_boundary.proofs.ClipRules.{virtual_found}
use Rattle.alf_boundary.proofs.clips.virtual_clip.Goals as goal

pub returns : goal.returns
unfolding virtual_clip
returns c size ctb line ratio =
    let found : c.map.result ≡ option_map (λ v. record { cause = VirtualBoundary; position = v }) c.near_boundary.result = search rules in
    rw (found, c.near_boundary.ensures) (virtual_found _ _)
