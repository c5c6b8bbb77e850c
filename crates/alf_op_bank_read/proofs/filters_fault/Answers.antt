-- A turn of the loop takes one field, and the fields that are left come to the same fault. Assumes nothing.
use Rattle.std.proofs.lemmas.Result.{err_from_is_err_and}
use Rattle.alf_op_bank_read.proofs.Steps.{loop_end, loop_fault, loop_left, loop_within}
use Rattle.alf_op_bank_read.proofs.filters_fault.Goals as goal

pub returns-in_err-next : goal.returns-in_err-next
returns-in_err-next c =
    let p = err_from_is_err_and c.from_residual.result c.from_residual.ensures.1 in
    rw (p.1, p.2) (loop_fault _ _ _ _ _ c.in_err-next.ensures c.loop-next.invariant.left)

pub loop-next-preserved : goal.loop-next-preserved
loop-next-preserved c = record {
  within = loop_within _ _ _ _ c.in_ok-next.ensures c.in-Some.is;
  left = loop_left _ _ _ _ c.in_ok-next.ensures c.loop-next.invariant.left c.in-Some.is;
}

pub returns : goal.returns
returns c = loop_end _ _ _ _ c.in_ok-next.ensures c.loop-next.invariant.left c.in_default.is
