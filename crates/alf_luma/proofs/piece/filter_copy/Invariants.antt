use Rattle.std.proofs.Common.{◌+◌, ◌*◌}
use Rattle.alf_lists.specs.Regions.{in_rect}
use Rattle.alf_lists.proofs.Painted.{Paint}
use Rattle.alf_taps.specs.Spread.{TapNumbers}
use Rattle.alf_luma.specs.Samples.{luma_copy_sample_at}
use Rattle.alf_luma.proofs.piece.filter_copy.Given as goal

-- the rows of blocks above `row` are filtered
abbrev pub invariant-loop-row : goal.invariant-loop-row
invariant-loop-row l = record {
  numbers : TapNumbers l.taps;
  painted : Paint l.initial.output
      (in_rect l.piece.picture.width l.piece.columns.start l.piece.columns.end l.piece.rows.start (l.piece.rows.start + 4 * l.row))
      (luma_copy_sample_at l.piece.picture l.piece.grid.ctb l.copy l.piece.columns l.piece.rows l.filters) l.output;
}
