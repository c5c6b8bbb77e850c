-- What the clamp gives is a level.
use Rattle.std.proofs.Common.{rules, arith}
use mir.Syntax.{w16}
use Rattle.alf_math.proofs.Clips.{level_clipped}
use Rattle.alf_math.proofs.clipping.level16.Goals as goal

pub returns : goal.returns
returns c = level_clipped w16 _ (omega arith) c.ranges.v (search rules) c.clamp.ensures.value c.top_level.ensures
