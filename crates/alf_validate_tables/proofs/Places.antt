-- What a fold that tests every number below another comes to, in the words of `alf_spec`. Assumes nothing.
use Rattle.std.proofs.Common.{◌≡◌, ◌∙◌, ap, ℕ, Bool, true, ◌&&◌, fold, arith}
use Rattle.std.specs.List.{range_with_len}
use Rattle.std.proofs.lemmas.List.FromFn.{length-range_with_len, get_or-range_with_len}
use Rattle.alf_spec.specs.Lists.{all_below}
use Rattle.alf_spec.proofs.Tests.{all_same}
use Rattle.alf_spec.proofs.Scans.{every-place}
use Rattle.alf_validate_layout.proofs.Every.{every-from_fold}

-- the numbers below n are a table whose entries are its places
pub below-from_fold : (test : ℕ → Bool) (n : ℕ) → fold (λ b k. b && test k) true (range_with_len 0 n) ≡ all_below n test
below-from_fold test n =
    every-from_fold test (range_with_len 0 n) ∙ every-place 0 (λ _ k. test k) (range_with_len 0 n)
    ∙ rw (length-range_with_len 0 n) (all_same n (λ k h. ap test (get_or-range_with_len 0 n k 0 h ∙ omega arith)))
