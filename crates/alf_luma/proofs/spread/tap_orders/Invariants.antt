use Rattle.alf_lists.specs.Regions.{between}
use Rattle.alf_lists.proofs.Painted.{Paint}
use Rattle.alf_luma.specs.SpreadFilters.{tap_index_at}
use Rattle.alf_luma.proofs.spread.tap_orders.Given as goal

-- the entries before k are written
abbrev pub invariant-loop-k : goal.invariant-loop-k
invariant-loop-k l = Paint l.initial.orders (between 0 l.k) tap_index_at l.orders
