-- A file that is rejected leaves the bank, and one that is accepted is stored whole. Assumes nothing.
use Rattle.std.proofs.Common.{◌≡◌, ◌∙◌, sym, ap, length, replicate, pos}
use Rattle.std.proofs.Math.Option.{some, none}
use Rattle.alf_spec.proofs.Answers.{kept_new}
use Rattle.alf_op_bank_read.proofs.Readings.{read-size, read_there, read-limit, read-filters, read_stored}
use Rattle.alf_op_bank_read.proofs.read_bank.Goals as goal

pub fill_bank-requires : goal.fill_bank-requires
fill_bank-requires c =
    let ok = sym c.in_ok-depth.ensures.fault in
    let depth = c.in_ok-depth.ensures.depth.0 in
    let limit = c.clip_limit.ensures in
    (read_there _ _ ok, read-limit _ _ ok depth limit, c.fill.ensures.len ∙ read-size _ _ ok, read-filters _ _ ok depth limit)

pub returns : goal.returns
returns c =
    let none_is = c.in_ok-depth.ensures.fault in
    let cleared : c.fill.new.self ≡ replicate (length c.args.bank.now) (pos 0) =
    c.fill.ensures.after (λ y q. q) in (
      none_is,
      kept_new none_is none (ap some c.in_ok-depth.ensures.depth.0),
      kept_new none_is _ (read_stored _ _ (sym none_is) (rw cleared at c.fill_bank.ensures)),
    )
