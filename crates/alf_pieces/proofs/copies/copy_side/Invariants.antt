use Rattle.std.proofs.Common.{◌+◌}
use Rattle.alf_lists.specs.Regions.{between}
use Rattle.alf_lists.proofs.Painted.{Paint}
use Rattle.alf_pieces.specs.Copies.{row_at}
use Rattle.alf_pieces.proofs.copies.copy_side.Given as goal

-- the first k samples of the margin are written
abbrev pub invariant-loop-k : goal.invariant-loop-k
invariant-loop-k l = Paint l.fn.copy (between (l.at + l.i) l.k) (row_at l.plane l.r l.at) l.copy
