-- Steps out of a block along one axis: each is known by the boundary that it crosses, a CTB's side where that is a multiple of the CTB
-- size. Assumes nothing.
use mathlib.Core.Path.{◌≡◌, refl, sym, ◌∙◌, ap}
use mathlib.Core.Logic.{◌≢◌, by_cases}
use mathlib.Core.Bool.{Bool, true, false, not}
use Prim.Native.Nat.{ℕ, zero, suc, ◌+◌, ◌*◌, ◌/◌, ◌%◌, ◌<◌}
use native.Mathlib.Nat.{div-add-mod', not-suc-le-zero}
use native.Mathlib.Decide.{ℕ_discrete}
use native.Mathlib.Omega.{arith}
use lib.Dec.{eqb}
use borrow.Author.Tests.{eq-eqb, ne_eqb, not-true, not-false}
use Rattle.alf_spec.specs.Geometry.{Side, before, after, next, gap, has_next, Axis, ctb_count}
use Rattle.alf_spec.specs.Isolation.{open_step}
use Rattle.alf_spec.proofs.Axes.{Regular, lower, upper, ctb_of_lem}
use Rattle.alf_spec.proofs.IsolatedRegions.Steps.{opened, next-ctb}
use Rattle.alf_isolation.specs.Blocks.{edge}
use Rattle.alf_isolation.specs.Steps.{step_open}

-- ---- a step from any position

-- a step stays in CTB q of n, or goes over a side that is not disabled to the next one: the test says which
pub data Crossing (n : ℕ) (disabled : Side → Bool) (d : Side) (q : ℕ) : ℕ → Bool → Type 0 where
  stays : Crossing n disabled d q q false
  crosses : has_next n d q ≡ true → disabled d ≡ false → Crossing n disabled d q (next d q) true

module _ (a : Axis) (ok : Regular a) where
  -- between x and the position after it lies a CTB's side exactly when that is a multiple of the CTB size
  on_side : (x : ℕ) → suc x % a.ctb ≡ 0 → x / a.ctb ≢ suc x / a.ctb
  on_side x e same = absurd (omega (arith, lower a x, div-add-mod' (suc x) a.ctb, ap (λ (q : ℕ). q * a.ctb) same))

  off_side : (x : ℕ) → suc x % a.ctb ≢ 0 → x / a.ctb ≡ suc x / a.ctb
  off_side x other = ctb_of_lem a (suc x / a.ctb) x (omega (arith, div-add-mod' (suc x) a.ctb)) (omega (arith, upper a ok (suc x)))

  side_of_lem : (d : Side) (x : ℕ) → 0 < gap d x → eqb (x / a.ctb) (next d x / a.ctb) ≡ not (eqb (gap d x % a.ctb) 0)
  side_of_lem before zero h = absurd (not-suc-le-zero h)
  side_of_lem before (suc x) h =
      by_cases (ℕ_discrete (suc x % a.ctb) 0)
      (λ e. simp (eq-eqb _ 0 e, ne_eqb (suc x / a.ctb) (x / a.ctb) (λ q. on_side x e (sym q))))
      (λ other. simp (ne_eqb _ 0 other, eq-eqb (suc x / a.ctb) (x / a.ctb) (sym (off_side x other))))
  side_of_lem after x h =
      by_cases (ℕ_discrete (suc x % a.ctb) 0)
      (λ e. simp (eq-eqb _ 0 e, ne_eqb (x / a.ctb) (suc x / a.ctb) (on_side x e)))
      (λ other. simp (ne_eqb _ 0 other, eq-eqb (x / a.ctb) (suc x / a.ctb) (off_side x other)))

  module _ (disabled : Side → Bool) where
    -- a step is known by the boundary that it crosses
    step_open_lem : (d : Side) (x : ℕ) → open_step a disabled d x ≡ step_open a.size a.ctb a.virtual_boundaries (disabled d) (gap d x)
    unfolding open_step step_open
    step_open_lem before zero = refl
    step_open_lem before (suc x) = simp (side_of_lem before (suc x) (omega arith))
    step_open_lem after x = simp (side_of_lem after x (omega arith))

    -- where an open step leads
    open_crossing : (d : Side) (x : ℕ) → open_step a disabled d x ≡ true
        → Crossing (ctb_count a) disabled d (x / a.ctb) (next d x / a.ctb) (eqb (gap d x % a.ctb) 0)
    open_crossing d x o =
        let p = opened a disabled d x o in
        let side = side_of_lem d x p.0 in
        let test = eqb (gap d x % a.ctb) 0 in
        by_cases (ℕ_discrete (x / a.ctb) (next d x / a.ctb))
        (λ (same : x / a.ctb ≡ next d x / a.ctb). rw (← same, not-true test (sym side ∙ eq-eqb _ _ same)) stays)
        (λ other.
        let c = next-ctb a ok d x p.0 p.1 other in
        let on = not-true (disabled d) (simp (ne_eqb (x / a.ctb) (next d x / a.ctb) other) at p.2) in
        rw (c.0, not-false test (sym side ∙ ne_eqb _ _ other)) (crosses c.1 on))

-- ---- the steps out of a block, along one axis

-- the boundary on that side of block x
abbrev pub boundary : Side → ℕ → ℕ
boundary before x = 8 * x
boundary after x = 8 * x + 8

edge_boundary : (d : Side) (x : ℕ) → gap d (edge d x) ≡ boundary d x
edge_boundary before x = refl
edge_boundary after x = omega arith

-- a step out of block x, which lies in CTB q
module _ (a : Axis) (ok : Regular a) (disabled : Side → Bool) (d : Side) (x : ℕ) where
  pub block_step : open_step a disabled d (edge d x) ≡ step_open a.size a.ctb a.virtual_boundaries (disabled d) (boundary d x)
  block_step = rw (edge_boundary d x) at (step_open_lem a ok disabled d (edge d x))

  pub block_crossing : {q : ℕ} → edge d x / a.ctb ≡ q → open_step a disabled d (edge d x) ≡ true
      → Crossing (ctb_count a) disabled d q (next d (edge d x) / a.ctb) (eqb (boundary d x % a.ctb) 0)
  block_crossing own o = rw (own, edge_boundary d x) at (open_crossing a ok disabled d (edge d x) o)

  pub block_low : open_step a disabled d (edge d x) ≡ true → 0 < boundary d x
  block_low o = rw (edge_boundary d x) at (opened a disabled d (edge d x) o).0
