-- What it promises is what the filter of a picture promises at its filter. The step is named, so that another argument is refused where the
-- two sides differ.
use Rattle.alf_op_cross.proofs.cross_component.Goals as goal

pub returns : goal.returns
returns c = c.filter_picture.ensures
