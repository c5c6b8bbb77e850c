-- The rows above v are corrected.
use Rattle.std.proofs.Common.{◌+◌, ◌/◌}
use Rattle.alf_spec.specs.Geometry.{sub_width, sub_height}
use Rattle.alf_lists.specs.Regions.{in_rect}
use Rattle.alf_lists.proofs.Painted.{Paint}
use Rattle.alf_pieces.specs.Copies.{extent}
use Rattle.alf_cross.specs.Pieces.{split_cross_at}
use Rattle.alf_cross.proofs.piece.piece_rows.Given as goal

abbrev pub invariant-loop-v : goal.invariant-loop-v
invariant-loop-v l =
    let a = l.piece in
    let p = a.picture in
    let from = a.columns.start / sub_width p in
    Paint l.initial.output
    (in_rect (p.width / sub_width p) from (from + extent a.columns / sub_width p) (a.rows.start / sub_height p) l.v)
    (split_cross_at p a.grid.ctb l.fn.filters l.fn.split l.fn.chroma a.columns a.rows) l.output
