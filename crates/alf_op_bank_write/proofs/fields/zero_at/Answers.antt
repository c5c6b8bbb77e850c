-- A number is zero where its bits are. Assumes nothing.
use Rattle.std.proofs.Common.{◌∙◌, ap, ℤ}
use Rattle.std.specs.Prelude.{eqb, nat_abs}
use Rattle.alf_bank.specs.Writing.{zero_at}
use Rattle.alf_op_bank_write.proofs.FieldBytes.{bits_zero}
use Rattle.alf_op_bank_write.proofs.fields.zero_at.Goals as goal

pub returns : goal.returns
unfolding zero_at
returns c = bits_zero c.number_of.result (record { sfits = c.number_of.type_inv }) ∙ ap (λ (z : ℤ). eqb (nat_abs z) 0) c.number_of.ensures
