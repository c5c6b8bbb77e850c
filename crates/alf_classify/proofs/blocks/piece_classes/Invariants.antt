use Rattle.std.proofs.Common.{◌+◌}
use Rattle.alf_lists.specs.Regions.{in_rect}
use Rattle.alf_lists.proofs.Painted.{Paint}
use Rattle.alf_classify.specs.PieceClasses.{copy_class_at}
use Rattle.alf_classify.proofs.blocks.piece_classes.Given as goal

-- the rows of blocks above `row` are classified
abbrev pub invariant-loop-row : goal.invariant-loop-row
invariant-loop-row l =
    Paint l.fn.map (in_rect l.map_columns l.left (l.left + l.count) l.top (l.top + l.row))
    (copy_class_at l.picture l.grid.ctb l.copy l.fn.columns l.rows l.map_columns l.left l.top) l.map
