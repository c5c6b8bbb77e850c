-- A coefficient fits a signed byte. Assumes nothing.
use Rattle.std.proofs.Common.{◌∙◌, to_z-of_z}
use Rattle.alf_op_bank_write.proofs.FieldBytes.{coeff_fits, coeff_bits}
use Rattle.alf_op_bank_write.proofs.fields.coeff_byte.Goals as goal

pub overflow_cast-z : goal.overflow_cast-z
overflow_cast-z c = rw (to_z-of_z c.ranges.z) (coeff_fits c.args.z c.requires)

pub returns : goal.returns
returns c =
    let fits = coeff_fits c.args.z c.requires in
    c.cast_unsigned.ensures ∙ rw (to_z-of_z c.ranges.z, to_z-of_z fits) (coeff_bits c.args.z c.requires)
