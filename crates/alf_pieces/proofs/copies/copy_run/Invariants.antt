use Rattle.alf_lists.specs.Regions.{between}
use Rattle.alf_lists.proofs.Painted.{Paint}
use Rattle.alf_pieces.specs.Copies.{run_at}
use Rattle.alf_pieces.proofs.copies.copy_run.Given as goal

-- the first i samples are copied
abbrev pub invariant-loop-i : goal.invariant-loop-i
invariant-loop-i l = Paint l.fn.copy (between l.at l.i) (run_at l.plane l.from l.at) l.copy
