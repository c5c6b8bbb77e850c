-- The filters of a fixed set, class by class: one class more. Assumes nothing.
use mathlib.Core.Path.{◌≡◌, ap}
use mathlib.Core.Bool.{true}
use mathlib.Core.List.{List}
use Prim.Native.Nat.{ℕ, ◌+◌, ◌-◌, ◌*◌, ◌^◌}
use native.Mathlib.Omega.{arith}
use borrow.Author.Tests.{lt-ltb, le-ltb}
use lib.IntN.{ℤ, pos}
use lib.ListN.{get_or}
use Rattle.alf_lists.specs.Regions.{between}
use Rattle.alf_lists.specs.Filled.{Filled, same}
use Rattle.alf_lists.proofs.Painted.{fill_call}
use Rattle.alf_lists.proofs.Regions.{run_facts, run_join}
use Rattle.alf_params.specs.Numbers.{copied_from, fixed_number}
use Rattle.alf_params.proofs.BankRanges.{number_in, piece_of}

module _ (depth set : ℕ) (fixed_filters : List ℤ) (fixed_map : List ℕ) (class : ℕ) where
  -- number j of the class
  here : (j : ℕ) → copied_from fixed_filters (12 * get_or fixed_map (25 * set + class) 0) (24 * class) (24 * class + j)
      ≡ get_or fixed_filters (12 * get_or fixed_map (25 * set + class) 0 + j) (pos 0)
  unfolding copied_from
  here j = ap (λ (n : ℕ). get_or fixed_filters (12 * get_or fixed_map (25 * set + class) 0 + n) (pos 0)) (omega arith)

  coefficient_here : (k : ℕ) → between (24 * class) 12 k ≡ true
      → copied_from fixed_filters (12 * get_or fixed_map (25 * set + class) 0) (24 * class) k ≡ fixed_number depth set fixed_filters fixed_map k
  unfolding fixed_number
  coefficient_here k t =
      let h = run_facts (24 * class) 12 k t in
      let j : ℕ = k - 24 * class in
      let e : k ≡ 24 * class + j = omega arith in
      rw (e, number_in 24 class j (omega arith), piece_of 24 class j (omega arith), lt-ltb j 12 (omega arith)) (here j)

  clip-here : (k : ℕ) → between (24 * class + 12) 12 k ≡ true → pos (2 ^ depth) ≡ fixed_number depth set fixed_filters fixed_map k
  unfolding fixed_number
  clip-here k t =
      let h = run_facts (24 * class + 12) 12 k t in
      let j : ℕ = k - 24 * class in
      let e : k ≡ 24 * class + j = omega arith in
      rw (e, number_in 24 class j (omega arith), le-ltb j 12 (omega arith))

  -- the coefficients of a class, and then its clips
  pub fixed_more : {xs ys one two : List ℤ} → Filled (pos 0) xs (between 0 (24 * class)) (fixed_number depth set fixed_filters fixed_map) ys
      → Filled (pos 0) ys (between (24 * class) 12) (copied_from fixed_filters (12 * get_or fixed_map (25 * set + class) 0) (24 * class)) one
      → Filled (pos 0) one (between (24 * class + 12) 12) (same (pos (2 ^ depth))) two
      → Filled (pos 0) xs (between 0 (24 * (class + 1))) (fixed_number depth set fixed_filters fixed_map) two
  fixed_more P Q R =
      fill_call
      (fill_call P Q (λ k l. coefficient_here k) (λ k l. run_join 0 (24 * class + 12) 0 (24 * class) (24 * class) 12 (omega arith) k))
      R (λ k l. clip-here k) (λ k l. run_join 0 (24 * (class + 1)) 0 (24 * class + 12) (24 * class + 12) 12 (omega arith) k)
