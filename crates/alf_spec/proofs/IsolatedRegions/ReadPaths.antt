-- The path along one axis from a position to the one that is read for its neighbour: within a stretch that nothing cuts, or over one side
-- of the CTB. Assumes nothing.
use mathlib.Core.Path.{◌≡◌, refl, sym, ap, ◌∙◌}
use mathlib.Core.Logic.{◌≢◌, by_cases}
use mathlib.Core.Bool.{Bool, true, false}
use mathlib.Core.List.{Memᴰ}
use Prim.Native.Nat.{ℕ, suc, pred, ◌+◌, ◌*◌, ◌/◌, ◌≤◌, ◌<◌}
use native.Mathlib.Decide.{ℕ_discrete}
use native.Mathlib.Omega.{arith}
use Rattle.alf_spec.specs.Geometry.{Side, before, after, next, gap, Axis, ctb_start}
use Rattle.alf_spec.specs.Isolation.{open_step}
use Rattle.alf_spec.proofs.Axes.{Regular, lower, upper, ctb_of_lem, past_end, following}
use Rattle.alf_spec.proofs.IsolatedRegions.UncutStretches.{NoBoundaryBetween, Uncut, uncut_sym}
use Rattle.alf_spec.proofs.Ratios.{Toward}
use Rattle.alf_spec.proofs.IsolatedRegions.Steps.{open_step_lem}

-- u and v, at most 7 apart, stand in two CTBs: e is the last position of the first
record TwoCtbs (a : Axis) (u v e : ℕ) : Type 0 where
  left : Uncut a u e
  right : Uncut a (suc e) v
  free : ¬ Memᴰ (suc e) a.virtual_boundaries
  first : ctb_start a v ≡ suc e

module _ (a : Axis) (ok : Regular a) where
  split : (u v e : ℕ) → suc e ≡ ctb_start a u + a.ctb → u ≤ v → v ≤ u + 7 → v < a.size → NoBoundaryBetween a u v
      → u / a.ctb ≢ v / a.ctb → TwoCtbs a u v e
  split u v e q le short in_v clear ne =
      let lo = lower a u in
      let hi = upper a ok u in
      let big = ok.big in
      let past = past_end a u v le ne in
      let r = following a ok u v le short ne in
      record {
        left = record {
          in_u = omega arith;
          in_v = omega arith;
          ctb = sym (ctb_of_lem a (u / a.ctb) e (omega arith) (omega arith));
          clear = λ b w. (λ k. omega arith, λ k. (clear b w).1 (omega arith));
        };
        right = record {
          in_u = omega arith;
          in_v = in_v;
          ctb = ctb_of_lem a (suc (u / a.ctb)) (suc e) (omega arith) (omega arith) ∙ sym r;
          clear = λ b w. (λ k. omega arith, λ k. let z = (clear b w).1 k in omega arith);
        };
        free = λ w. let z = (clear (suc e) w).1 (omega arith) in omega arith;
        first = omega (arith, ap (λ (n : ℕ). n * a.ctb) r);
      }

-- the outermost position of x's CTB on that side
abbrev pub outermost : Axis → Side → ℕ → ℕ
outermost a before x = ctb_start a x
outermost a after x = pred (ctb_start a x + a.ctb)

-- what clip positions ensure along one axis, for a position x and the position u that is read
pub record Guarded (a : Axis) (disabled : Side → Bool) (d : Side) (x u : ℕ) : Type 0 where
  pub in_picture : u < a.size
  pub toward : Toward d x u
  pub low : x ≤ u + 7
  pub high : u ≤ x + 7
  pub clear : NoBoundaryBetween a x u
  pub enabled : x / a.ctb ≢ u / a.ctb → disabled d ≡ false

-- over one side of x's CTB: from x to the CTB's outermost position m, one open step, and on to u
pub record Over (a : Axis) (disabled : Side → Bool) (d : Side) (x u m : ℕ) : Type 0 where
  pub at_end : outermost a d x ≡ m
  pub inner : Uncut a x m
  pub low : 0 < gap d m
  pub high : gap d m < a.size
  pub step : open_step a disabled d m ≡ true
  pub outer : Uncut a (next d m) u
  pub other : x / a.ctb ≢ u / a.ctb

-- within one stretch, or over one side of the CTB
pub data ReadPath (a : Axis) (disabled : Side → Bool) (d : Side) (x u : ℕ) : Type 0 where
  here : Uncut a x u → ReadPath a disabled d x u
  over : (m : ℕ) → Over a disabled d x u m → ReadPath a disabled d x u

module _ (a : Axis) (ok : Regular a) (disabled : Side → Bool) where
  cross : (d : Side) (x u : ℕ) → x < a.size → Guarded a disabled d x u → x / a.ctb ≢ u / a.ctb → ReadPath a disabled d x u
  cross before x u in_x p ne =
      let e = pred (ctb_start a u + a.ctb) in
      let s = split a ok u x e (omega (arith, ok.big)) p.toward p.low in_x (λ b w. ((p.clear b w).1, (p.clear b w).0))
      (λ q. ne (sym q)) in
      over (suc e) (record {
        at_end = s.first;
        inner = uncut_sym s.right;
        low = omega arith;
        high = s.right.in_u;
        step = open_step_lem a disabled before (suc e) (omega arith) s.right.in_u s.free (λ _. p.enabled ne);
        outer = uncut_sym s.left;
        other = ne;
      })
  cross after x u in_x p ne =
      let e = pred (ctb_start a x + a.ctb) in
      let s = split a ok x u e (omega (arith, ok.big)) p.toward p.high p.in_picture p.clear ne in
      over e (record {
        at_end = refl;
        inner = s.left;
        low = omega arith;
        high = s.right.in_u;
        step = open_step_lem a disabled after e (omega arith) s.right.in_u s.free (λ _. p.enabled ne);
        outer = s.right;
        other = ne;
      })

  pub read_path : (d : Side) (x u : ℕ) → x < a.size → Guarded a disabled d x u → ReadPath a disabled d x u
  read_path d x u in_x p = by_cases (ℕ_discrete (x / a.ctb) (u / a.ctb))
      (λ q. here (record { in_u = in_x; in_v = p.in_picture; ctb = q; clear = p.clear }))
      (cross d x u in_x p)
