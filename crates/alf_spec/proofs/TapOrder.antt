-- Each row of the tap order is a permutation of 0, .., 11: one test over the table, and what it says of a row and of an entry.
-- Assumes nothing.
use mathlib.Core.Path.{◌≡◌, refl}
use mathlib.Core.Bool.{Bool, true, ◌&&◌, cond}
use mathlib.Core.List.{List, [], ◌∷◌}
use Prim.Native.Nat.{ℕ, suc, ◌<◌}
use native.Mathlib.Omega.{arith}
use lib.Dec.{eqb, ltb}
use lib.ListN.{length, get_or}
use borrow.Author.Tests.{ltb-true, eqb-true}
use Rattle.alf_spec.specs.Lists.{all_below, every_from, every}
use Rattle.alf_spec.specs.Luma.{tap_order_table, tap_order}
use Rattle.alf_spec.proofs.Tests.{both, all_at, every-at}

-- how often v stands in a list
unfoldable pub occurrences : ℕ → List ℕ → ℕ
occurrences v [] = 0
occurrences v (x ∷ xs) = cond (eqb v x) (suc (occurrences v xs)) (occurrences v xs)

-- n entries, each below n, and each number below n once
unfoldable pub is_permutation : ℕ → List ℕ → Bool
is_permutation n list = eqb (length list) n && (every (λ x. ltb x n) list && all_below n (λ v. eqb (occurrences v list) 1))

pub tap-order_test : every (is_permutation 12) tap_order_table ≡ true
unfolding every_from all_below is_permutation occurrences
tap-order_test = refl

module _ (t : ℕ) (h : t < 4) where
  abbrev row : List ℕ
  row = get_or tap_order_table t []

  abbrev below : Bool
  below = every (λ x. ltb x 12) row

  abbrev once : Bool
  once = all_below 12 (λ v. eqb (occurrences v row) 1)

  pub row_permutes : is_permutation 12 row ≡ true
  row_permutes = every-at [] 0 (λ k x. is_permutation 12 x) tap_order_table tap-order_test t h

  pub twelve_entries : length row ≡ 12
  unfolding is_permutation
  twelve_entries = eqb-true (length row) 12 (both (eqb (length row) 12) _ row_permutes).0

  pub each_below : (j : ℕ) → j < 12 → tap_order t j < 12
  unfolding is_permutation tap_order
  each_below j hj =
      ltb-true (tap_order t j) 12
      (every-at 0 0 (λ k x. ltb x 12) row (both below once (both (eqb (length row) 12) _ row_permutes).1).0 j
      (omega (arith, twelve_entries)))

  pub each_once : (v : ℕ) → v < 12 → occurrences v row ≡ 1
  unfolding is_permutation
  each_once v hv = eqb-true (occurrences v row) 1 (all_at 12 _ (both below once (both (eqb (length row) 12) _ row_permutes).1).1 v hv)
