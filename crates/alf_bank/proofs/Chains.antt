-- What a chain over a list, over numbers or over a part of a list says that tests each item: it is a test of every place. Assumes nothing.
use mathlib.Core.Path.{◌≡◌, refl, ◌∙◌, ap}
use mathlib.Core.Bool.{Bool, ◌&&◌}
use mathlib.Core.List.{List, [], ◌∷◌}
use Prim.Native.Nat.{ℕ, suc, ◌+◌, ◌≤◌}
use native.Mathlib.Omega.{arith}
use lib.ListN.{length, get_or, take, drop, length-take, length-drop}
use lib.Seq.{get_or-take}
use Rattle.std.proofs.lemmas.List.{get_or-drop}
use Rattle.std.specs.List.{range_with_len, list_all}
use Rattle.std.proofs.lemmas.List.FromFn.{length-range_with_len, get_or-range_with_len}
use Rattle.alf_spec.specs.Lists.{all_below, every_from}
use Rattle.alf_spec.proofs.Tests.{all_same}
use Rattle.alf_spec.proofs.Scans.{every-place}

all_every : {A : Type 0} (test : A → Bool) (k : ℕ) (xs : List A) → list_all test xs ≡ every_from k (λ _ x. test x) xs
unfolding every_from
all_every test k [] = refl
all_every test k (x ∷ xs) = ap (λ (b : Bool). test x && b) (all_every test (suc k) xs)

pub all_places : {A : Type 0} (d : A) (test : A → Bool) (xs : List A) → list_all test xs ≡ all_below (length xs) (λ k. test (get_or xs k d))
all_places d test xs = all_every test 0 xs ∙ every-place d (λ _ x. test x) xs

-- `(0..n).all(test)`
pub all_range : (test : ℕ → Bool) (n : ℕ) → list_all test (range_with_len 0 n) ≡ all_below n test
all_range test n =
    all_places 0 test (range_with_len 0 n)
    ∙ rw (length-range_with_len 0 n) (all_same n (λ k h. ap test (get_or-range_with_len 0 n k 0 h ∙ omega arith)))

-- `list[at..at + n].iter().all(test)`
pub all_part : (test : ℕ → Bool) (list : List ℕ) (at n : ℕ) → at + n ≤ length list
    → list_all test (take n (drop at list)) ≡ all_below n (λ j. test (get_or list (at + j) 0))
all_part test list at n fits =
    let len : length (take n (drop at list)) ≡ n = rw (length-take, length-drop) (omega arith) in
    all_places 0 test (take n (drop at list))
    ∙ rw len (all_same n (λ j h. ap test (rw (get_or-take, get_or-drop))))
