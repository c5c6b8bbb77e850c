-- A turn of the loop writes one filter. Assumes nothing.
use Rattle.std.proofs.Common.{arith}
use Rattle.alf_op_bank_write.proofs.Files.{wrote_none, wrote_room, wrote_more}
use Rattle.alf_op_bank_write.proofs.write_filters.Goals as goal

pub loop-k-init : goal.loop-k-init
loop-k-init c = wrote_none

pub write_filter-at-requires : goal.write_filter-at-requires
write_filter-at-requires c =
    (omega arith, c.requires.0 _ (omega arith), wrote_room c.requires.1 c.loop-k.invariant (omega arith))

pub loop-k-preserved : goal.loop-k-preserved
loop-k-preserved c =
    wrote_more c.requires.1 c.loop-k.invariant (omega arith) c.write_filter-at.ensures.0 c.write_filter-at.ensures.1
