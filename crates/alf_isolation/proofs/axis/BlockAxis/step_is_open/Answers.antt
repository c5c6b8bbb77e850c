-- A virtual boundary lies there where it is in the list. Assumes nothing.
use Rattle.alf_isolation.specs.Steps.{step_open}
use Rattle.alf_isolation.proofs.ListSearch.{elem_any}
use Rattle.alf_isolation.proofs.axis.BlockAxis.step_is_open.Goals as goal

pub returns : goal.returns
unfolding step_open
returns c = rw (c.is_listed.ensures, elem_any c.args.b c.args.self.now.boundaries.now)
