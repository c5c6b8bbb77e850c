use Rattle.std.proofs.Common.{zero, ◌+◌, ◌*◌, ◌∙◌, arith}
use mathlib.Core.Path.{ap₂}
use lib.ListN.{length-replicate}
use Rattle.alf_lists.proofs.Painted.{paint_none, paint_set, paint_in}
use Rattle.alf_lists.proofs.Regions.{run_none, run_next, in_run}
use Rattle.alf_luma.specs.SpreadFilters.{tap_index}
use Rattle.alf_luma.proofs.spread.tap_orders.Goals as goal

pub loop-k-init : goal.loop-k-init
loop-k-init c = paint_none (run_none 0)

pub loop-k-preserved : goal.loop-k-preserved
loop-k-preserved c =
    paint_set _ _ c.loop-k.invariant (omega (arith, c.loop-k.invariant.len)) c.tap_index.ensures.0 (λ k h. run_next _ k)

pub returns : goal.returns
returns c =
    let inv = c.loop-k.invariant in
    record {
      count = omega (arith, inv.len, length-replicate 96 zero);
      entries = λ t j ht hj.
          paint_in inv (24 * t + j) (omega arith) (in_run 0 c.loop-k.k (24 * t + j) (omega arith))
          ∙ ap₂ tap_index (omega arith) (omega arith);
    }
