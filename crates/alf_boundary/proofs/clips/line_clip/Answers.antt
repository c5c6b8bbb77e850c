-- A distance against a limit needs no difference. Assumes nothing.
use Rattle.alf_spec.specs.Boundary.{line_clip}
use Rattle.alf_boundary.proofs.ClipRules.{distance-le, start_is, in_ctb_lem}
use Rattle.alf_boundary.proofs.clips.line_clip.Goals as goal

pub returns-then-after : goal.returns-then-after
unfolding line_clip
returns-then-after c boundaries ratio =
    rw (c.if-after.true, distance-le, start_is c.requires c.ctb_start-start.ensures) c.only_if.ensures

pub returns-else-after : goal.returns-else-after
unfolding line_clip
returns-else-after c boundaries ratio =
    let start = c.ctb_start-start.ensures in
    rw (c.if-after.false, in_ctb_lem c.requires start, start_is c.requires start) c.only_if-else-after.ensures
