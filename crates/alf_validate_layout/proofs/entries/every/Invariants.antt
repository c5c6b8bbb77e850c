-- What is behind the loop has been tested.
use Rattle.std.proofs.Common.{◌≡◌, Bool, true, ◌&&◌, fold, take}
use Rattle.std.specs.Fn.{FnReturnsAt}
use Rattle.alf_validate_layout.proofs.entries.every.Given as goal

abbrev pub invariant-loop-entry : goal.invariant-loop-entry
invariant-loop-entry g l =
    (p : g.row.T.Denot → Bool) → ((x : g.row.T.Denot) (r : Bool) → FnReturnsAt g.F.Fn l.test x r → r ≡ p x)
    → l.good ≡ fold (λ b x. b && p x) true (take l.entry-index l.list)
