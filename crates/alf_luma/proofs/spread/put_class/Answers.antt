use Rattle.std.proofs.Common.{arith}
use Rattle.alf_luma.proofs.FilterNumbers.{numbers-small, orders-small}
use Rattle.alf_luma.proofs.spread.put_class.Goals as goal

pub put_filter-requires : goal.put_filter-requires
put_filter-requires c = (
  omega (arith, c.requires.0.count),
  omega (arith, c.requires.1.count),
  c.requires.4,
  c.requires.5,
  orders-small c.requires.1 _ c.requires.3,
  numbers-small c.requires.0,
)
