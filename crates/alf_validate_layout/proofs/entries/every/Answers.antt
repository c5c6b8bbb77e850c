-- The loop has tested what is behind it. Assumes nothing.
use Rattle.std.proofs.Common.{◌≡◌, refl, ◌&&◌, ◌∙◌, ap, Bool, true}
use Rattle.std.proofs.lemmas.Fn.{says_at}
use Rattle.std.proofs.lemmas.List.{take_all}
use Rattle.std.proofs.lemmas.List.Sums.{fold_more}
use Rattle.alf_validate_layout.proofs.Every.{every-from_fold}
use Rattle.alf_validate_layout.proofs.entries.every.Goals as goal

pub loop-entry-preserved : goal.loop-entry-preserved
loop-entry-preserved g c p h =
    let tested : c.test-good.result ≡ p c.entry-item.result = h _ _ (says_at g.F.Fn c.test-good.ensures refl) in
    rw (
      fold_more (λ b x. b && p x) true c.args.list.now c.loop-entry.entry-index c.entry-item.result c.loop-entry-test.true,
      ← c.loop-entry.invariant p h,
      ← c.entry-item.is,
    )
    (ap (λ (r : Bool). c.loop-entry.good && r) tested)

pub returns : goal.returns
returns g c p h =
    c.loop-entry.invariant p h
    ∙ rw (take_all c.loop-entry.entry-index c.args.list.now c.loop-entry-test.false) (every-from_fold p c.args.list.now)
