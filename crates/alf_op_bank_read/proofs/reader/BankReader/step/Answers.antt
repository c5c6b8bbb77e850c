-- A field that the judge accepts is a filter's, with its head and its leading numbers. Assumes nothing.
use Rattle.alf_op_bank_read.proofs.Steps.{good_head, good_leads}
use Rattle.alf_op_bank_read.proofs.reader.BankReader.step.Goals as goal

pub length_of-requires : goal.length_of-requires
length_of-requires c = good_head _ _ _ c.in_ok-filter_fault.ensures

pub id_of-requires : goal.id_of-requires
id_of-requires c = good_leads _ _ _ c.in_ok-filter_fault.ensures
