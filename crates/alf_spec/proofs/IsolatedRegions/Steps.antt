-- Steps along one axis: when a step is open, and to which CTB it leads. Assumes nothing.
use mathlib.Core.Path.{◌≡◌, sym, ap}
use mathlib.Core.Logic.{◌≢◌, by_cases}
use mathlib.Core.Bool.{Bool, true, false, not, ◌||◌}
use mathlib.Core.List.{Memᴰ}
use Prim.Native.Nat.{ℕ, zero, suc, pred, ◌/◌, ◌<◌}
use native.Mathlib.Nat.{le-div_iff_mul-le, not-suc-le-zero}
use native.Mathlib.Decide.{ℕ_discrete}
use native.Mathlib.Omega.{arith}
use lib.Dec.{eqb, ltb}
use borrow.Author.Tests.{ltb-true, lt-ltb, eq-eqb, ne_eqb}
use Rattle.alf_spec.specs.Lists.{elem}
use Rattle.alf_spec.specs.Geometry.{Side, before, after, next, gap, has_next, Axis, ctb_count}
use Rattle.alf_spec.specs.Isolation.{open_step}
use Rattle.alf_spec.proofs.Tests.{both}
use Rattle.alf_spec.proofs.Lists.{no_elem}
use Rattle.alf_spec.proofs.Axes.{Regular, lower, following}

-- ---- `has_next` and the facts that it tests

has_next_lem : (n : ℕ) (d : Side) (x : ℕ) → 0 < gap d x → gap d x < n → has_next n d x ≡ true
has_next_lem n d x low high = simp (lt-ltb 0 (gap d x) low, lt-ltb (gap d x) n high)

pub next-gap : (n : ℕ) (d : Side) (x : ℕ) → has_next n d x ≡ true → (0 < gap d x) × (gap d x < n)
next-gap n d x h =
    let p = both (ltb 0 (gap d x)) (ltb (gap d x) n) h in
    (ltb-true 0 (gap d x) p.0, ltb-true (gap d x) n p.1)

pub next-below : (n : ℕ) (d : Side) (x : ℕ) → gap d x < n → next d x < n
next-below n before zero h = h
next-below n before (suc x) h = omega arith
next-below n after x h = h

-- ---- open steps

-- the CTB's side is not in the way: the step stays in the CTB, or the side is not disabled
side_test_lem : (m n : ℕ) (off : Bool) → (m ≢ n → off ≡ false) → (eqb m n || not off) ≡ true
side_test_lem m n off on = by_cases (ℕ_discrete m n) (λ q. simp (eq-eqb m n q)) (λ ne. simp (ne_eqb m n ne, on ne))

module _ (a : Axis) (disabled : Side → Bool) (d : Side) (x : ℕ) where
  -- what makes a step open
  pub open_step_lem : 0 < gap d x → gap d x < a.size → ¬ Memᴰ (gap d x) a.virtual_boundaries
      → (x / a.ctb ≢ next d x / a.ctb → disabled d ≡ false) → open_step a disabled d x ≡ true
  unfolding open_step
  open_step_lem low high free on = simp (
    has_next_lem a.size d x low high,
    no_elem (gap d x) a.virtual_boundaries free,
    side_test_lem (x / a.ctb) (next d x / a.ctb) (disabled d) on,
  )

  -- what an open step says
  pub opened : open_step a disabled d x ≡ true
      → (0 < gap d x) × (gap d x < a.size) × ((eqb (x / a.ctb) (next d x / a.ctb) || not (disabled d)) ≡ true)
  unfolding open_step
  opened o =
      let p = both (has_next a.size d x) _ o in
      let gaps = next-gap a.size d x p.0 in
      (gaps.0, gaps.1, (both (not (elem (gap d x) a.virtual_boundaries)) _ p.1).1)

-- ---- the CTB that a step leads to

module _ (a : Axis) (ok : Regular a) where
  -- the CTB of a position of the picture is one of the picture's
  pub ctb-below : (x : ℕ) → x < a.size → x / a.ctb < ctb_count a
  ctb-below x h = (le-div_iff_mul-le {k = a.ctb} {x = suc (x / a.ctb)} (omega (arith, ok.big))).1 (omega (arith, ok.big, lower a x))

  -- a step that leaves a CTB leads to the one next to it
  pub next-ctb : (d : Side) (x : ℕ) → 0 < gap d x → gap d x < a.size → x / a.ctb ≢ next d x / a.ctb
      → (next d x / a.ctb ≡ next d (x / a.ctb)) × (has_next (ctb_count a) d (x / a.ctb) ≡ true)
  next-ctb before zero low high ne = absurd (not-suc-le-zero low)
  next-ctb before (suc x) low high ne =
      let q = following a ok x (suc x) (omega arith) (omega arith) (λ e. ne (sym e)) in
      (sym (ap pred q), has_next_lem (ctb_count a) before (suc x / a.ctb) (omega arith) (ctb-below (suc x) high))
  next-ctb after x low high ne =
      let q = following a ok x (suc x) (omega arith) (omega arith) ne in
      (q, has_next_lem (ctb_count a) after (x / a.ctb) (omega arith) (omega (arith, ctb-below (suc x) high)))
