-- A bank that is refused leaves the buffer, and one that is accepted is written whole. Assumes nothing.
use Rattle.std.proofs.Common.{arith, refl, sym, ap}
use Rattle.std.proofs.Math.Option.{some, none}
use Rattle.alf_spec.proofs.Answers.{kept_new}
use Rattle.alf_op_bank_write.proofs.Files.{write_room, write_ready, write_length, write_fits, mid_long, write_file}
use Rattle.alf_op_bank_write.proofs.write_bank.Goals as goal

pub write_depth-requires : goal.write_depth-requires
write_depth-requires c = let r = write_room _ _ _ (sym c.in_ok-judge_bank.ensures) in omega arith

pub write_filters-length-requires : goal.write_filters-length-requires
write_filters-length-requires c =
    let ok = sym c.in_ok-judge_bank.ensures in
    (write_ready _ _ _ ok, mid_long _ _ _ ok _ refl c.write_depth.ensures)

pub overflow_cast-result : goal.overflow_cast-result
overflow_cast-result c = record { fits = write_fits _ _ _ (sym c.in_ok-judge_bank.ensures) c.write_filters-length.ensures.0 }

pub returns : goal.returns
returns c =
    let none_is = c.in_ok-judge_bank.ensures in
    let wrote = c.write_filters-length.ensures in (
      none_is,
      kept_new none_is none (ap some (write_length _ _ _ (sym none_is) wrote.0)),
      kept_new none_is _ (write_file _ _ _ (sym none_is) _ refl c.write_depth.ensures wrote.1),
    )
