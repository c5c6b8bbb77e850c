use Rattle.alf_pieces.proofs.CopyRows.{row_copied}
use Rattle.alf_pieces.proofs.copies.copy_row.Goals as goal

pub returns : goal.returns
returns c = row_copied _ _ _ c.requires.0 _ c.copy_side.ensures c.copy_run.ensures c.copy_side-2.ensures
