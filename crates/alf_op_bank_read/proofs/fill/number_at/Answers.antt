-- A number is a coefficient or a clip. Assumes nothing.
use Rattle.std.proofs.Common.{arith, w16}
use Rattle.alf_math.proofs.Magnitude.{returned}
use Rattle.alf_op_bank_read.proofs.Fills.{number_coeff, number-clip}
use Rattle.alf_op_bank_read.proofs.fill.number_at.Goals as goal

pub returns-then-j-coeffs : goal.returns-then-j-coeffs
returns-then-j-coeffs c =
    returned w16 c.coeff_number.type_inv (number_coeff _ _ c.shape_of-coeffs.ensures.1 (omega arith) c.coeff_number.ensures)

pub returns-else-j-coeffs : goal.returns-else-j-coeffs
returns-else-j-coeffs c =
    returned w16 c.clip_number.type_inv (number-clip _ _ c.shape_of-coeffs.ensures.1 (omega arith) c.requires.1 c.clip_number.ensures)
