use Rattle.std.proofs.Common.{◌*◌}
use Rattle.alf_lists.specs.Regions.{between}
use Rattle.alf_lists.proofs.Painted.{Paint}
use Rattle.alf_pieces.specs.Copies.{pitch, copy_at}
use Rattle.alf_pieces.proofs.copies.copy_piece.Given as goal

-- the first j rows of the copy are written
abbrev pub invariant-loop-j : goal.invariant-loop-j
invariant-loop-j l = Paint l.fn.copy (between 0 (l.j * pitch l.columns)) (copy_at l.columns l.rows l.sides l.plane l.width) l.copy
