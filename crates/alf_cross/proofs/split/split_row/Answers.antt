-- Two columns more stand. Assumes nothing.
use Rattle.std.proofs.Common.{◌≡◌, ◌+◌, ◌*◌, ◌/◌, ◌≤◌, ◌<◌, length, ◌∙◌, refl, arith}
use Rattle.alf_cross.proofs.SplitColumns.{others, row_more}
use Rattle.alf_cross.proofs.split.split_row.Goals as goal

pub loop-i-init : goal.loop-i-init
loop-i-init c = record { row = record { same = λ k h. absurd (omega arith) }; kept = λ k h. refl }

pub loop-i-preserved : goal.loop-i-preserved
loop-i-preserved c =
    let a = c.args in
    let l = c.loop-i in
    let room : a.at + a.pitch ≤ length l.split = omega arith in
    let inside : l.i < a.pitch / 2 = omega arith in
    record {
      row = row_more a.copy.now l.split a.pitch a.at l.i room inside l.invariant.row;
      kept = λ k h.
          others a.copy.now l.split a.pitch a.at l.i room inside k (λ q. omega arith) (λ q. omega arith) ∙ l.invariant.kept k h;
    }

pub returns : goal.returns
returns c = let all : 2 * c.loop-i.i ≡ c.args.pitch = omega arith in (rw all at c.loop-i.invariant.row, c.loop-i.invariant.kept)
