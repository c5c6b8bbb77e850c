-- A block that fails decides, and so do all that pass. The step from block to block holds on each way through the test, so that a harmless
-- condition beside it passes, and one that leaves a block out is refused by that block. Assumes nothing.
use Rattle.std.proofs.Common.{rules}
use Rattle.alf_spec.proofs.Scans.{scans}
use Rattle.alf_isolation.proofs.neighbours.run_passes.Goals as goal

pub loop-i-init : goal.loop-i-init
loop-i-init c = search scans

pub returns-then-not-block_passes : goal.returns-then-not-block_passes
returns-then-not-block_passes c = search scans

pub loop-i-preserved : goal.loop-i-preserved
loop-i-preserved c = search (scans, rules)

pub returns : goal.returns
returns c = search scans
