-- A field that can be stored has its leading numbers. Assumes nothing.
use Rattle.alf_op_bank_read.proofs.FieldTests.{has_leads}
use Rattle.alf_op_bank_read.proofs.Steps.{to_the_end}
use Rattle.alf_op_bank_read.proofs.fill.store_at.Goals as goal

pub id_of-requires : goal.id_of-requires
id_of-requires c = rw to_the_end (has_leads _ c.requires.1.reaches)
