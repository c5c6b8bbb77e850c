-- A test of every place is one of every number. Assumes nothing.
use Rattle.std.proofs.Common.{pos, sym, ◌∙◌}
use Rattle.alf_spec.specs.Faults.{bank_number_valid}
use Rattle.alf_spec.proofs.Scans.{every-place}
use Rattle.alf_validate_tables.proofs.filters.bank_valid.Goals as goal

pub returns : goal.returns
returns c = c.rest_valid.ensures ∙ sym (every-place (pos 0) (bank_number_valid c.args.bit_depth) c.args.bank.now)
