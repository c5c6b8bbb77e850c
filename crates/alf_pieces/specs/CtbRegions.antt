-- The samples of one CTB of a plane, and of the CTBs up to one, as tests of an index. Assumes nothing.
use Rattle.std.specs.Prelude.{Bool, ◌&&◌, ℕ, eqb, ltb}
use Rattle.alf_spec.specs.Input.{Layout}
use Rattle.alf_spec.specs.Geometry.{Plane, column_of, row_of, ctb_at, address}

module _ (l : Layout) (g : Plane) where
  -- the address of the CTB in which the sample at index i lies
  abbrev pub address_at : ℕ → ℕ
  address_at i = address l (ctb_at g (column_of g i) (row_of g i))

  -- the sample at index i lies in the CTB at address k
  unfoldable pub of_ctb : ℕ → ℕ → Bool
  of_ctb k i = eqb (address_at i) k

  -- the sample at index i lies in a CTB with an address below k
  unfoldable pub before_ctb : ℕ → ℕ → Bool
  before_ctb k i = ltb (address_at i) k

  -- the test passes for the CTB in which the sample at index i lies
  unfoldable pub in_ctb_if : (ℕ → Bool) → ℕ → Bool
  in_ctb_if test i = test (address_at i)

  -- the sample at index i lies in the CTB at address k, for which the test passes
  unfoldable pub of_ctb_if : (ℕ → Bool) → ℕ → ℕ → Bool
  of_ctb_if test k i = test k && of_ctb k i

  -- the sample at index i lies in a CTB with an address below k, for which the test passes
  unfoldable pub before_ctb_if : (ℕ → Bool) → ℕ → ℕ → Bool
  before_ctb_if test k i = test (address_at i) && before_ctb k i
