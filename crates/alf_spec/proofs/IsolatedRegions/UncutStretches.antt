-- The stretches of an axis that neither a virtual boundary nor a CTB's side cuts: what goes from each position of such a stretch to the
-- next holds along the whole stretch. Assumes nothing.
use mathlib.Core.Path.{◌≡◌, sym, ap, ◌∙◌}
use mathlib.Core.Logic.{◌↔◌, by_cases}
use mathlib.Core.List.{Memᴰ}
use Prim.Native.Nat.{ℕ, suc, ◌*◌, ◌/◌, ◌≤◌, ◌<◌}
use native.Mathlib.Nat.{le_refl}
use native.Mathlib.Decide.{dec_le, le_ind}
use native.Mathlib.Omega.{arith}
use Rattle.alf_spec.specs.Geometry.{Axis}
use Rattle.alf_spec.proofs.Axes.{Regular, lower, upper, ctb_of_lem}

-- u and v stand on the same side of each virtual boundary
abbrev pub NoBoundaryBetween : Axis → ℕ → ℕ → Type 0
NoBoundaryBetween a u v = (b : ℕ) → Memᴰ b a.virtual_boundaries → (b ≤ u) ↔ (b ≤ v)

-- u and v stand in one stretch: in the picture, in one CTB, and on the same side of each virtual boundary
pub record Uncut (a : Axis) (u v : ℕ) : Type 0 where
  pub in_u : u < a.size
  pub in_v : v < a.size
  pub ctb : u / a.ctb ≡ v / a.ctb
  pub clear : NoBoundaryBetween a u v

pub uncut_sym : {a : Axis} {u v : ℕ} → Uncut a u v → Uncut a v u
uncut_sym c = record { in_u = c.in_v; in_v = c.in_u; ctb = sym c.ctb; clear = λ b m. ((c.clear b m).1, (c.clear b m).0) }

-- within a stretch P goes from each position to the next, and back
unfoldable pub CarriedAlong : Axis → (ℕ → Type 0) → Type 0
CarriedAlong a P = (b : ℕ) → suc b < a.size → ¬ Memᴰ (suc b) a.virtual_boundaries → b / a.ctb ≡ suc b / a.ctb → P b ↔ P (suc b)

-- the part of a stretch up to m
pub part : (a : Axis) → Regular a → {u m v : ℕ} → u ≤ m → m ≤ v → Uncut a u v → Uncut a u m
part a ok {u} {m} {v} h l c = record {
  in_u = c.in_u;
  in_v = omega (arith, c.in_v);
  ctb = sym (ctb_of_lem a (u / a.ctb) m (omega (arith, lower a u)) (omega (arith, upper a ok v, ap (λ (q : ℕ). q * a.ctb) c.ctb)));
  clear = λ b w. (λ k. omega arith, λ k. (c.clear b w).1 (omega arith));
}

module _ (a : Axis) (ok : Regular a) (P : ℕ → Type 0) (carried : CarriedAlong a P) where
  span : (u m : ℕ) → u ≤ m → Uncut a u m → P u ↔ P m
  unfolding CarriedAlong
  span u = le_ind (λ m. Uncut a u m → P u ↔ P m) (λ c. (λ p. p, λ p. p)) (λ m h ih c.
      let c' = part a ok h (omega arith) c in
      let s = carried m c.in_v (λ w. let z = (c.clear (suc m) w).1 (le_refl (suc m)) in omega arith) (sym c'.ctb ∙ c.ctb) in
      (λ p. s.0 ((ih c').0 p), λ p. (ih c').1 (s.1 p)))

  -- from one end of a stretch to the other
  pub walk : {u v : ℕ} → Uncut a u v → P u → P v
  walk {u} {v} c = by_cases (dec_le u v) (λ h. (span u v h c).0) (λ h. (span v u (omega arith) (uncut_sym c)).1)
