-- How far x lies in its CTB decides. Assumes nothing.
use Rattle.alf_spec.specs.Boundary.{side_clip}
use Rattle.alf_boundary.proofs.ClipRules.{start_is, in_ctb_lem}
use Rattle.alf_boundary.proofs.clips.side_clip.Goals as goal

pub returns-then-after : goal.returns-then-after
unfolding side_clip
returns-then-after c boundaries ratio =
    let start = c.ctb_start-start.ensures in
    rw (c.if-after.true, ← c.disables.ensures, in_ctb_lem c.requires start, start_is c.requires start) c.only_if.ensures

pub returns-else-after : goal.returns-else-after
unfolding side_clip
returns-else-after c boundaries ratio =
    let start = c.ctb_start-start.ensures in
    rw (c.if-after.false, ← c.disables-else-after.ensures, in_ctb_lem c.requires start, start_is c.requires start)
    c.only_if-else-after.ensures
