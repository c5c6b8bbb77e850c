-- A filter that is all zero is left out. Assumes nothing.
use Rattle.alf_op_bank_write.proofs.Files.{skipped_at, skipped_file, written_at, written_file}
use Rattle.alf_op_bank_write.proofs.fields.write_filter.Goals as goal

pub returns-then-all_zero : goal.returns-then-all_zero
returns-then-all_zero c =
    let id = c.filter_at-id.ensures in
    let zero = c.all_zero.ensures in
    (skipped_at _ _ _ c.args.file.now id zero c.if-all_zero.true, skipped_file _ _ _ c.args.file.now id zero c.if-all_zero.true)

pub returns : goal.returns
returns c =
    let id = c.filter_at-id.ensures in
    let zero = c.all_zero.ensures in (
      written_at _ _ _ c.args.file.now id zero c.if-all_zero.false c.size_of.ensures.0,
      written_file _ _ _ c.args.file.now id zero c.if-all_zero.false c.write_field.ensures,
    )
