-- A turn of the loop stores one filter, and those that are left make the same bank. Assumes nothing.
use Rattle.std.proofs.Common.{arith, ◌≡◌, None}
use Rattle.alf_op_bank_read.proofs.Steps.{loop_left, loop_good, loop_within}
use Rattle.alf_op_bank_read.proofs.Fills.{good_storable, good_fits, fill_end, fill_next, fill_length, fill_faulty}
use Rattle.alf_op_bank_read.proofs.fill.fill_bank.Goals as goal

pub store_at-requires : goal.store_at-requires
store_at-requires c =
    let g = loop_good _ _ _ _ (c.in-Ok-Some.ensures) c.in-Ok-Some.field-0-is in
    (c.loop-next.invariant.within, good_storable _ g c.requires.1, omega (arith, good_fits _ g))

pub loop-next-preserved : goal.loop-next-preserved
loop-next-preserved c =
    let seen = c.in-Ok-Some.ensures in
    let is = c.in-Ok-Some.field-0-is in
    record {
      within = loop_within _ _ _ _ seen is;
      size = fill_length _ _ _ _ seen _ c.loop-next.invariant.size is c.store_at.ensures;
      good = loop_left _ _ _ _ seen c.loop-next.invariant.good is;
      left = fill_next _ _ _ _ seen _ c.loop-next.invariant.left is c.store_at.ensures;
    }

pub returns-in_default : goal.returns-in_default
returns-in_default c =
    let none : c.in_default.field-0 ≡ None = cc in
    fill_end _ _ _ _ (rw c.in_default.is at c.step.ensures) _ c.loop-next.invariant.left none

pub returns-in_default-2 : goal.returns-in_default-2
returns-in_default-2 c = absurd (fill_faulty _ _ _ _ _ (rw c.in_default.is at c.step.ensures) c.loop-next.invariant.good)
