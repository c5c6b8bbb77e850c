-- A test of the numbers below n, as a chain over `0..n` makes it, is one of every place. Assumes nothing.
use mathlib.Core.Path.{◌≡◌, refl, ◌∙◌, ap}
use mathlib.Core.Bool.{Bool, ◌&&◌}
use mathlib.Core.List.{List, [], ◌∷◌}
use Prim.Native.Nat.{ℕ, suc}
use native.Mathlib.Omega.{arith}
use Rattle.std.specs.List.{range_with_len, list_all}
use Rattle.std.proofs.lemmas.List.FromFn.{length-range_with_len, get_or-range_with_len}
use Rattle.alf_spec.specs.Lists.{all_below, every_from}
use Rattle.alf_spec.proofs.Tests.{all_same}
use Rattle.alf_spec.proofs.Scans.{every-place}

all_every : (test : ℕ → Bool) (k : ℕ) (xs : List ℕ) → list_all test xs ≡ every_from k (λ _ x. test x) xs
unfolding every_from
all_every test k [] = refl
all_every test k (x ∷ xs) = ap (λ (b : Bool). test x && b) (all_every test (suc k) xs)

pub all_range : (test : ℕ → Bool) (n : ℕ) → list_all test (range_with_len 0 n) ≡ all_below n test
all_range test n =
    all_every test 0 (range_with_len 0 n) ∙ every-place 0 (λ _ x. test x) (range_with_len 0 n)
    ∙ rw (length-range_with_len 0 n) (all_same n (λ k h. ap test (get_or-range_with_len 0 n k 0 h ∙ omega arith)))
