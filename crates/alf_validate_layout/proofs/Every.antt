-- What a loop or chain that tests every entry, or every two neighbours of a list, comes to, in the words of `alf_spec`. Assumes nothing.
use Rattle.std.proofs.Common.{◌≡◌, refl, sym, ◌∙◌, ap, ℕ, zero, suc, ◌+◌, ◌-◌, ◌<◌, ◌≤◌, Bool, true, ◌&&◌, List, [], ◌∷◌, length}
use Rattle.std.proofs.Common.{get_or, take, drop, fold, arith, add-one, sub-one, take_all}
use Rattle.std.specs.List.{list_all}
use Rattle.std.proofs.Math.Bool.{and-true, and_assoc}
use Rattle.std.specs.Slice.Iter.{windows_rest, windows_size}
use Rattle.std.proofs.lemmas.List.Sums.{fold_more}
use Rattle.std.proofs.lemmas.Iterator.{YieldsList}
use Rattle.std.proofs.lemmas.Iterator.Splits.{YieldsList-from_shown_while}
use Rattle.std.specs.Prelude.{Option, MatchOption}
use Rattle.std.specs.declared.slice.Windows.{Windows}
use denote.Ref.{Bor}
use Rattle.alf_spec.specs.Lists.{all_below, every_from, every}
use Rattle.alf_spec.proofs.Scans.{every-place, Sofar, sofar_none, sofar_more, sofar_done}

-- ---- every entry

module _ {A : Type 0} (test : A → Bool) where
  -- i entries in, a loop that goes on past an entry that fails has tested i places
  sofar-from_fold : (d : A) (xs : List A) (i : ℕ) → i ≤ length xs
      → Sofar (length xs) (λ k. test (get_or xs k d)) i (fold (λ b x. b && test x) true (take i xs))
  sofar-from_fold d xs zero h = sofar_none _ _
  sofar-from_fold d xs (suc i) h =
      rw (← add-one, fold_more (λ b x. b && test x) true xs i d) (sofar_more (sofar-from_fold d xs i (omega arith)) (omega arith) refl)

  -- so it has tested every entry: where there are some, the first stands for what is read past the end
  pub every-from_fold : (xs : List A) → fold (λ b x. b && test x) true xs ≡ every test xs
  unfolding every_from
  every-from_fold [] = refl
  every-from_fold (x ∷ xs) =
      let n = length (x ∷ xs) in
      rw (take_all n (x ∷ xs) (omega arith)) at (sofar_done (sofar-from_fold x (x ∷ xs) n (omega arith)) (omega arith))
      ∙ sym (every-place x (λ _ y. test y) (x ∷ xs))

-- ---- every two neighbours

first_below : (n : ℕ) (test : ℕ → Bool) → all_below (suc n) test ≡ (test 0 && all_below n (λ k. test (suc k)))
unfolding all_below
first_below zero test = sym (and-true (test 0))
first_below (suc n) test = rw (first_below n test) (and_assoc (test 0) (all_below n (λ k. test (suc k))) (test (suc n)))

abbrev pairs_from : ℕ → List ℕ → List (List ℕ)
pairs_from x [] = []
pairs_from x (y ∷ ys) = (x ∷ y ∷ []) ∷ pairs_from y ys

abbrev pub pairs : List ℕ → List (List ℕ)
pairs [] = []
pairs (x ∷ xs) = pairs_from x xs

first_pair : (xs : List ℕ) → 2 ≤ length xs → pairs xs ≡ take 2 xs ∷ pairs (drop 1 xs)
first_pair [] h = absurd (omega arith)
first_pair (x ∷ []) h = absurd (omega arith)
first_pair (x ∷ y ∷ ys) h = refl

no_pair : (xs : List ℕ) → length xs < 2 → length (pairs xs) ≡ 0
no_pair [] h = refl
no_pair (x ∷ []) h = refl
no_pair (x ∷ y ∷ ys) h = absurd (omega arith)

-- how the windows of a list come
abbrev steps : Windows ℕ → Option (Bor (List ℕ)) → Windows ℕ → Type 0
steps s r t = (windows_size t ≡ windows_size s) × MatchOption r ((length (windows_rest s) < windows_size s) × (t ≡ s))
    (λ x. (windows_size s ≤ length (windows_rest s)) × (x.now ≡ take (windows_size s) (windows_rest s))
    × (windows_rest t ≡ drop 1 (windows_rest s)) × (length x.now ≡ windows_size s))

pub YieldsList-from_windows : {s : Windows ℕ} (xs : List ℕ) → windows_rest s ≡ xs → windows_size s ≡ 2
    → YieldsList steps (λ x. x.now) s (pairs xs)
YieldsList-from_windows {s} xs e two =
    rw (← e)
    (YieldsList-from_shown_while steps (λ x. x.now) (λ t. pairs (windows_rest t)) (λ t. windows_size t ≡ 2)
    (λ t u p h. no_pair (windows_rest t) (omega (arith, p, h.1.0)))
    (λ t x u p h. (h.0 ∙ p, first_pair (windows_rest t) (omega (arith, p, h.1.0)) ∙ cc))
    s two)

module _ (test : ℕ → ℕ → Bool) where
  neighbours_from : (x : ℕ) (ys : List ℕ) → list_all (λ p. test (get_or p 0 0) (get_or p 1 0)) (pairs_from x ys)
      ≡ all_below (length ys) (λ k. test (get_or (x ∷ ys) k 0) (get_or (x ∷ ys) (suc k) 0))
  unfolding all_below
  neighbours_from x [] = refl
  neighbours_from x (y ∷ ys) =
      ap (λ b. test x y && b) (neighbours_from y ys)
      ∙ sym (first_below (length ys) (λ k. test (get_or (x ∷ y ∷ ys) k 0) (get_or (x ∷ y ∷ ys) (suc k) 0)))

  pub neighbours-from_all : (xs : List ℕ) → list_all (λ p. test (get_or p 0 0) (get_or p 1 0)) (pairs xs)
      ≡ all_below (length xs - 1) (λ k. test (get_or xs k 0) (get_or xs (k + 1) 0))
  unfolding all_below
  neighbours-from_all [] = refl
  neighbours-from_all (x ∷ xs) = simp (sub-one, add-one) (neighbours_from x xs)
