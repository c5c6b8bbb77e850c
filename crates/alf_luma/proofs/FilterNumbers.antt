-- How large a filter's numbers and the entries of the tap orders are. Assumes nothing.
use mathlib.Core.Path.{◌≡◌}
use mathlib.Core.List.{List}
use mathlib.Core.Logic.{⊎_elim}
use Prim.Native.Nat.{ℕ, ◌+◌, ◌*◌, ◌-◌, ◌/◌, ◌%◌, ◌≤◌, ◌<◌}
use native.Mathlib.Omega.{arith}
use lib.IntN.{ℤ, pos, nat_abs}
use lib.ListN.{get_or, get_or-eq_default}
use borrow.Author.Tests.{lt-ltb, le-ltb}
use Rattle.alf_spec.proofs.TapOrder.{each_below}
use Rattle.alf_lists.proofs.Regions.{order}
use Rattle.alf_params.specs.Filters.{FilterNumbers}
use Rattle.alf_luma.specs.SpreadFilters.{tap_index, TapOrders}

-- coefficients and clips alike fit 16 bits
pub numbers-small : {filters : List ℤ} → FilterNumbers filters → (k : ℕ) → nat_abs (get_or filters k (pos 0)) ≤ 4096
numbers-small {filters} h k =
    ⊎_elim (λ l. ⊎_elim (low l) (high l) (order (k % 24) 12))
    (λ l. rw (get_or-eq_default filters (pos 0) {n = k} (omega (arith, h.count))) (omega arith))
    (order k 600)
  where
    low : k < 600 → k % 24 < 12 → nat_abs (get_or filters k (pos 0)) ≤ 4096
    low l m =
        let e : 24 * (k / 24) + k % 24 ≡ k = omega arith in
        omega (arith, rw e at (h.coefficients (k / 24) (k % 24) (omega arith) m))

    high : k < 600 → 12 ≤ k % 24 → nat_abs (get_or filters k (pos 0)) ≤ 4096
    high l m =
        let e : 24 * (k / 24) + (12 + (k % 24 - 12)) ≡ k = omega arith in
        rw e at (h.clips (k / 24) (k % 24 - 12) (omega arith) (omega arith)).small

pub index_small : (transpose j : ℕ) → transpose < 4 → j < 24 → tap_index transpose j < 24
unfolding tap_index
index_small t j ht hj = ⊎_elim
    (λ l. rw (lt-ltb j 12 l) (omega (arith, each_below t ht j l)))
    (λ l. rw (le-ltb j 12 l) (omega (arith, each_below t ht (j - 12) (omega arith))))
    (order j 12)

-- the order of one transpose in the table
pub orders-small : {orders : List ℕ} → TapOrders orders → (transpose : ℕ) → transpose < 4 → (j : ℕ) → j < 24
    → get_or orders (24 * transpose + j) 0 < 24
orders-small p t ht j hj = rw (p.entries t j ht hj) (index_small t j ht hj)
