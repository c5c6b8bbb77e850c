use Rattle.std.proofs.Common.{◌+◌, ◌*◌}
use Rattle.alf_pieces.proofs.PieceScan.{Scanned}
use Rattle.alf_pieces.proofs.pieces.piece_end.Given as goal

-- no clip position stands after the last samples of the first k blocks
abbrev pub invariant-loop-k : goal.invariant-loop-k
invariant-loop-k l = Scanned l.axis l.boundaries l.x (l.x + 4 * l.k)
