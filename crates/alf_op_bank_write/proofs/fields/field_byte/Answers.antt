-- The head comes first, then the coefficients, then the clips. Assumes nothing.
use Rattle.alf_op_bank_write.proofs.FieldBytes.{byte_head, byte_coeff, byte_clip}
use Rattle.alf_op_bank_write.proofs.fields.field_byte.Goals as goal

pub returns-then-k-shape : goal.returns-then-k-shape
returns-then-k-shape c = byte_head _ _ c.shape_of-shape.ensures.0 c.if-k-shape.true c.head_byte.ensures

pub returns-then-j-shape : goal.returns-then-j-shape
returns-then-j-shape c =
    byte_coeff _ _ c.shape_of-shape.ensures.0 c.shape_of-shape.ensures.1 c.if-k-shape.false c.if-j-shape.true c.coeff_of.ensures

pub returns : goal.returns
returns c =
    byte_clip _ _ c.shape_of-shape.ensures.0 c.shape_of-shape.ensures.1 c.if-k-shape.false c.if-j-shape.false c.requires c.clip_of.ensures
    c.clip_byte.ensures
