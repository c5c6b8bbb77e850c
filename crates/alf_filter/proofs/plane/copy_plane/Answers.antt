use Rattle.alf_filter.proofs.Copies.{plane_copied}
use Rattle.alf_filter.proofs.plane.copy_plane.Goals as goal

pub returns : goal.returns
returns c = plane_copied _ _ c.requires c.copy_run.ensures
