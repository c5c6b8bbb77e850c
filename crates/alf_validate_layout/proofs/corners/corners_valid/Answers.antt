-- A corner that breaks the rule decides for its row, and a row for the map. Assumes nothing.
use Rattle.std.proofs.Common.{◌-◌, ◌∙◌, refl, sym, arith}
use Rattle.alf_spec.specs.Faults.{corners_in_row}
use Rattle.alf_spec.proofs.Scans.{scan_none, scan_more, scan_fails, scan_done}
use Rattle.alf_validate_layout.proofs.corners.corners_valid.Goals as goal

pub corners-init : goal.corners-init
corners-init g c = record { good = refl; rows = scan_none _ _ }

pub loop-x-init : goal.loop-x-init
loop-x-init g c = record { good = c.corners.invariant.good; corners = scan_none _ _ }

pub loop-x-preserved : goal.loop-x-preserved
loop-x-preserved g c = record {
  good = c.if-not-good.false;
  corners = scan_more c.loop-x.invariant.corners (omega arith) (sym c.corner_at-good.ensures ∙ c.if-not-good.false);
}

pub corners-preserved : goal.corners-preserved
unfolding corners_in_row
corners-preserved g c = record {
  good = c.loop-x.invariant.good;
  rows = scan_more c.corners.invariant.rows (omega arith)
      (rw (← c.row_start-from.ensures.0) (sym (scan_done c.loop-x.invariant.corners (omega arith))));
}

pub returns-after-corners : goal.returns-after-corners
returns-after-corners g c = c.corners.invariant.good ∙ scan_done c.corners.invariant.rows (omega arith)

pub returns-then-not-good : goal.returns-then-not-good
unfolding corners_in_row
returns-then-not-good g c =
    c.if-not-good.true
    ∙ scan_fails (c.args.rows - 1) _ c.corners.y (omega arith)
    (rw (← c.row_start-from.ensures.0)
    (sym (scan_fails (c.args.columns - 1) _ c.loop-x.x (omega arith) (sym c.corner_at-good.ensures ∙ c.if-not-good.true))))
