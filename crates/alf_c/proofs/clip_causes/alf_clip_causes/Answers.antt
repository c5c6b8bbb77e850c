-- Without room, the number is that of the room's fault or of an earlier one, and nothing is written. Assumes nothing.
use Rattle.std.proofs.Common.{◌∙◌}
use borrow.Author.Tests.{ne_eqb}
use Rattle.alf_c.proofs.WrittenCauses.{no_room}
use Rattle.alf_c.proofs.clip_causes.alf_clip_causes.Goals as goal

pub returns-then-causes-ne4 : goal.returns-then-causes-ne4
returns-then-causes-ne4 c =
    rw (ne_eqb _ 4 c.if-causes-ne4.true)
    (no_room _ _ _ _ _ (c.number.ensures ∙ c.clip_causes-answer.ensures.0) c.without_room.ensures)
