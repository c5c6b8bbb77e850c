-- The CTB begins in the picture. Assumes nothing.
use Rattle.alf_isolation.specs.Steps.{blocks_along}
use Rattle.alf_isolation.proofs.BlockBounds.{first_block}
use Rattle.alf_isolation.proofs.axis.BlockAxis.blocks_in.Goals as goal

pub overflow_sub-self : goal.overflow_sub-self
overflow_sub-self c = first_block c.args.self.now.size c.args.self.now.ctb c.args.q c.requires.0 c.requires.1

pub returns : goal.returns
unfolding blocks_along
returns c = c.min.ensures
