-- How far the filters read from a sample, in luma positions along one axis. Assumes nothing.
use mathlib.Core.Path.{◌≡◌}
use mathlib.Core.List.{List}
use Prim.Native.Nat.{ℕ, ◌+◌, ◌*◌, ◌%◌, ◌≤◌, ◌<◌}
use native.Mathlib.Omega.{arith}
use Rattle.alf_spec.specs.Input.{Layout}
use Rattle.alf_spec.specs.Geometry.{Plane, luma_position}
use Rattle.alf_spec.specs.Padding.{read}
use Rattle.alf_spec.proofs.Ratios.{Ratio, whole, half}
use Rattle.alf_spec.proofs.IsolatedRegions.Inside.{Inside}

-- from x a filter may read at p: less than 8 away, and no multiple of 4 stands between the two that the rules for clip positions do not see
-- from x ("0 to 2 rows above or at the sample", "1 to 4 below")
pub record Reach (x p : ℕ) : Type 0 where
  pub low : x ≤ p + 7
  pub high : p ≤ x + 7
  pub before : (m : ℕ) → m % 4 ≡ 0 → p < m → m ≤ x → x < m + 3
  pub after : (m : ℕ) → m % 4 ≡ 0 → x < m → m ≤ p → m ≤ x + 4

-- luma and cross-component taps: up to 3 either way
pub reach_luma : (x p : ℕ) → x ≤ p + 3 → p ≤ x + 3 → Reach (x * 1) (p * 1)
reach_luma x p h k = omega arith

-- the class window: from a block's first sample, 3 before and 6 after
pub reach_window : (x p : ℕ) → x % 4 ≡ 0 → x ≤ p + 3 → p ≤ x + 6 → Reach (x * 1) (p * 1)
reach_window x p q h k = omega arith

-- chroma taps: up to 2 of the plane's own samples either way
pub reach_chroma : (r : ℕ) → Ratio r → (x p : ℕ) → x ≤ p + 2 → p ≤ x + 2 → Reach (x * r) (p * r)
reach_chroma _ whole x p h k = omega arith
reach_chroma _ half x p h k = omega arith

-- two planes give the same reads for every sample inside
abbrev pub SameReads : Layout → List ℕ → Plane → List ℕ → List ℕ → Type 0
SameReads l region g plane plane' =
    (x y : ℕ) → Inside l region g x y
    → (p q : ℕ) → Reach (luma_position g.columns x) (luma_position g.columns p)
    → Reach (luma_position g.rows y) (luma_position g.rows q)
    → read l g x y plane p q ≡ read l g x y plane' p q
