-- The samples past a CTB, by the test of the corner rule and in luma positions; and where the corner rule moves a column. Assumes nothing.
use mathlib.Core.Path.{◌≡◌, refl, sym, ap}
use mathlib.Core.Logic.{◌↔◌, ◌≢◌}
use mathlib.Core.Bool.{true}
use Prim.Native.Nat.{ℕ, pred, ◌+◌, ◌*◌, ◌/◌, ◌≤◌, ◌<◌}
use native.Mathlib.Omega.{arith}
use borrow.Author.Tests.{ltb-true, lt-ltb}
use Rattle.alf_spec.specs.Geometry.{Side, before, after, Axis, luma_position, ctb_start}
use Rattle.alf_spec.specs.Padding.{ctb_end, past_ctb}
use Rattle.alf_spec.proofs.Axes.{not_gt, Regular, lower, upper, ctb_of_lem, past_end}
use Rattle.alf_spec.proofs.IsolatedRegions.UncutStretches.{Uncut, part}
use Rattle.alf_spec.proofs.Ratios.{Ratio, boundary, own_lt, lt_own, last_own, last_in, Toward}
use Rattle.alf_spec.proofs.IsolatedRegions.ClipPositions.{bound, bound_even}
use Rattle.alf_spec.proofs.IsolatedRegions.ReadPaths.{outermost}

-- the boundary b is crossed on the way from x to u
abbrev pub Between : Side → ℕ → ℕ → ℕ → Type 0
Between before x b u = (b ≤ x) × (u < b)
Between after x b u = (x < b) × (b ≤ u)

-- the CTB is left over its side
pub leaves : (a : Axis) → Regular a → (d : Side) (x u : ℕ) → Toward d x u → x / a.ctb ≢ u / a.ctb → Between d x (bound a d x) u
leaves a ok before x u t ne =
    (lower a x, not_gt (λ l. ne (sym (ctb_of_lem a (x / a.ctb) u (omega arith) (omega (arith, upper a ok x))))))
leaves a ok after x u t ne = (upper a ok x, past_end a x u t ne)

-- u stands past the boundary b
abbrev Beyond : Side → ℕ → ℕ → Type 0
Beyond before b u = u < b
Beyond after b u = b ≤ u

-- the plane's own samples x and u, and their luma positions
module _ (a : Axis) (ok : Regular a) (ratio : Ratio a.ratio) (x u : ℕ) where
  abbrev X : ℕ
  X = luma_position a x

  abbrev U : ℕ
  U = luma_position a u

  -- u lies past the last of the CTB's samples exactly when it lies past the CTB's end
  after_last : (pred (ctb_start a X / a.ratio + a.ctb / a.ratio) < u) ↔ (bound a after X ≤ U)
  after_last = last_own a.ratio ratio (ctb_start a X) a.ctb u (bound_even a ok X before) ok.ctb8 ok.big

  pub past : (d : Side) → Between d X (bound a d X) U → past_ctb a d x u ≡ true
  past before h = lt-ltb u (ctb_end a before x) (own_lt a.ratio ratio (ctb_start a X) u (bound_even a ok X before) h.1)
  past after h = lt-ltb (ctb_end a after x) u (after_last.1 h.1)

  pub beyond : (d : Side) → past_ctb a d x u ≡ true → Beyond d (bound a d X) U
  beyond before q = lt_own a.ratio (ctb_start a X) u (ltb-true u (ctb_end a before x) q)
  beyond after q = after_last.0 (ltb-true (ctb_end a after x) u q)

  -- what lies past the CTB lies in another
  pub past_other : (d : Side) → past_ctb a d x u ≡ true → X / a.ctb ≢ U / a.ctb
  past_other before q e = omega (arith, lower a U, beyond before q, ap (λ (n : ℕ). n * a.ctb) e)
  past_other after q e = omega (arith, upper a ok U, beyond after q, ap (λ (n : ℕ). n * a.ctb) e)

  -- what lies past the CTB on a side lies on that side of the sample
  pub past_side : (d e : Side) → Toward d X U → past_ctb a e x u ≡ true → d ≡ e
  past_side before before t q = refl
  past_side before after t q = absurd (omega (arith, upper a ok X, beyond after q))
  past_side after before t q = absurd (omega (arith, lower a X, beyond before q))
  past_side after after t q = refl

-- the corner rule moves a column within the CTB
pub end_uncut : (a : Axis) → Regular a → Ratio a.ratio → (d : Side) (x m : ℕ) → outermost a d (luma_position a x) ≡ m
    → Uncut a (luma_position a x) m
    → Uncut a (luma_position a x) (luma_position a (ctb_end a d x))
end_uncut a ok ratio before x m q c =
    let start = ctb_start a (luma_position a x) in
    rw (boundary a.ratio ratio start (bound_even a ok (luma_position a x) before), q) c
end_uncut a ok ratio after x m q c =
    let start = ctb_start a (luma_position a x) in
    let even = bound_even a ok (luma_position a x) before in
    let h = last_in a.ratio ratio start a.ctb x even ok.ctb8 ok.big (upper a ok (luma_position a x)) in
    part a ok h.0 (omega (arith, h.1)) c
