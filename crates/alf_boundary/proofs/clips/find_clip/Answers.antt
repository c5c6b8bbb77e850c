-- What the three rules find, in the order of the side. Assumes nothing.
use Rattle.alf_spec.specs.Boundary.{clip}
use Rattle.alf_boundary.proofs.ClipRules.{first_of_three}
use Rattle.alf_boundary.proofs.clips.find_clip.Goals as goal

pub returns-then-after : goal.returns-then-after
unfolding clip
returns-then-after c ratio =
    let line = c.line_clip-by_line.ensures c.args.boundaries.now ratio in
    let boundary = c.virtual_clip-by_boundary.ensures c.args.axis.size c.args.axis.ctb c.args.axis.line ratio in
    let side = c.side_clip-by_side.ensures c.args.boundaries.now ratio in
    rw (c.or-then-after.ensures, c.or.ensures, first_of_three, line, boundary, side, c.if-after.true)

pub returns-else-after : goal.returns-else-after
unfolding clip
returns-else-after c ratio =
    let line = c.line_clip-by_line.ensures c.args.boundaries.now ratio in
    let boundary = c.virtual_clip-by_boundary.ensures c.args.axis.size c.args.axis.ctb c.args.axis.line ratio in
    let side = c.side_clip-by_side.ensures c.args.boundaries.now ratio in
    rw (c.or-else-after-2.ensures, c.or-else-after.ensures, first_of_three, line, boundary, side, c.if-after.false)
