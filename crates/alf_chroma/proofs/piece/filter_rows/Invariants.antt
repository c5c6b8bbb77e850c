-- The rows above y are filtered.
use Rattle.std.proofs.Common.{◌+◌}
use Rattle.alf_lists.specs.Regions.{in_rect}
use Rattle.alf_lists.proofs.Painted.{Paint}
use Rattle.alf_chroma.specs.Pieces.{copy_chroma_at}
use Rattle.alf_chroma.proofs.piece.filter_rows.Given as goal

abbrev pub invariant-loop-y : goal.invariant-loop-y
invariant-loop-y l =
    Paint l.initial.output (in_rect l.width l.columns.start (l.columns.start + l.n) l.rows.start l.y)
    (copy_chroma_at l.picture l.grid.ctb l.copy l.taps l.columns l.rows) l.output
