use Rattle.std.proofs.Common.{◌+◌, ◌*◌}
use Rattle.alf_lists.specs.Regions.{in_rect}
use Rattle.alf_lists.proofs.Painted.{Paint}
use Rattle.alf_pieces.specs.Copies.{extent}
use Rattle.alf_luma.specs.Samples.{spread_sample_at}
use Rattle.alf_luma.proofs.piece.filter_four.Given as goal

-- the first i of the rows are filtered
abbrev pub invariant-loop-i : goal.invariant-loop-i
invariant-loop-i l =
    let p = l.piece in
    let left = p.columns.start in
    let n = extent p.columns in
    let top = p.rows.start + 4 * l.row in
    Paint l.initial.output (in_rect p.picture.width left (left + n) top (top + l.i))
    (spread_sample_at p.picture p.grid.ctb l.copy l.taps left n top (4 * l.row)) l.output
