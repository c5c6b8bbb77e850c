-- The axis has the sizes that are passed. Assumes nothing.
use Rattle.alf_spec.specs.Geometry.{line_rule}
use Rattle.alf_boundary.proofs.clips.line_rule.Goals as goal

pub returns : goal.returns
unfolding line_rule
returns c a e f = rw (e, f)
