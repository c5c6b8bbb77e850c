-- The block is one of the row's. Assumes nothing.
use Rattle.std.proofs.Common.{eq-eqb, ne_eqb}
use Rattle.alf_isolation.specs.Steps.{block_test}
use Rattle.alf_isolation.proofs.BlockBounds.{block_in}
use Rattle.alf_isolation.proofs.neighbours.block_passes.Goals as goal

pub returns-then-region-k-ne1 : goal.returns-then-region-k-ne1
unfolding block_test
returns-then-region-k-ne1 c = simp (ne_eqb _ _ c.if-region-k-ne1.true)

pub neighbours_inside-requires : goal.neighbours_inside-requires
neighbours_inside-requires c = block_in c.requires.0 _ _ c.requires.1 c.block_sides-own.ensures

pub returns : goal.returns
unfolding block_test
returns c = simp (eq-eqb _ _ c.if-region-k-ne1.false, ← c.block_sides-own.ensures) c.neighbours_inside.ensures
