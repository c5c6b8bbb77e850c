-- One row more is split. Assumes nothing.
use Rattle.std.proofs.Common.{◌≡◌, arith}
use Rattle.alf_lists.proofs.Regions.{row_room}
use Rattle.alf_cross.proofs.SplitColumns.{rows_more}
use Rattle.alf_cross.proofs.split.split_rows.Goals as goal

pub split_row-requires : goal.split_row-requires
split_row-requires c =
    let a = c.args in
    let j = c.loop-j.j in (
      c.requires.0,
      row_room j a.rows a.pitch _ c.loop-j-test.true c.requires.1,
      omega (arith, row_room j a.rows a.pitch _ c.loop-j-test.true c.requires.2),
    )

pub loop-j-init : goal.loop-j-init
loop-j-init c = record { row = λ j h. absurd (omega arith) }

pub loop-j-preserved : goal.loop-j-preserved
loop-j-preserved c = rows_more c.requires.0 c.loop-j.invariant c.split_row.ensures.0 c.split_row.ensures.1

pub returns : goal.returns
returns c = let all : c.loop-j.j ≡ c.args.rows = omega arith in rw all at c.loop-j.invariant
