-- Laws of the rules for clip positions. Assumes nothing.
use Rattle.std.proofs.Common.{◌≡◌, refl, sym, ap, ◌∙◌, Bool, true, false, cond, List, [], ◌∷◌, Option, Some, None, arith, leb}
use Rattle.std.proofs.Common.{ℕ, ◌+◌, ◌-◌, ◌*◌, ◌/◌, ◌%◌, ◌≤◌, ◌<◌}
use Rattle.std.specs.List.{find}
use Rattle.std.specs.Option.{option_map, option_or}
use native.Mathlib.Nat.{div-mul-le_self, div-add-mod', mod-lt}
use borrow.Author.Tests.{leb-true, le-leb}
use Rattle.alf_spec.specs.declared.Clip.{Clip}
use Rattle.alf_spec.specs.declared.ClipCause.{ClipCause}
use Rattle.alf_spec.specs.declared.ClipCause.TheVariants.{VirtualBoundary}
use Rattle.alf_spec.specs.Geometry.{Side, before, after}
use Rattle.alf_spec.specs.Boundary.{only, ◌or_else◌}
use Rattle.alf_spec.specs.Boundary as first
use Rattle.alf_spec.proofs.Tests.{same_test}
use Rattle.alf_boundary.specs.declared.clips.CtbAxis.{CtbAxis}
use Rattle.alf_boundary.specs.Clips.{clip_of, InCtb}

-- a distance against a limit, without a difference
pub distance-le : (x v k : ℕ) → leb (x - v) k ≡ leb x (v + k)
distance-le x v k =
    same_test _ _
    (λ q. let h = leb-true (x - v) k q in le-leb x (v + k) (omega arith))
    (λ q. let h = leb-true x (v + k) q in le-leb (x - v) k (omega arith))

-- two sides with the same causes
pub sides-same : {given side : Side → ClipCause} → given before ≡ side before → given after ≡ side after → given ≡ side
sides-same {given} {side} first last = λ t d. at d t
  where
    at : (d : Side) → given d ≡ side d
    at before = first
    at after = last

-- a position of an axis's CTB: where the CTB begins, as code has it, and how far the position lies in it
module _ {a : CtbAxis} {x start : ℕ} (h : InCtb a x) (e : start ≡ a.place * a.ctb) where
  pub start_is : x / a.ctb * a.ctb ≡ start
  start_is = sym (e ∙ ap (λ (q : ℕ). q * a.ctb) h.place)

  pub start-le : start ≤ x
  start-le = omega (arith, start_is, div-mul-le_self x a.ctb)

  pub in_ctb_lem : x % a.ctb ≡ x - start
  in_ctb_lem = omega (arith, start_is, div-add-mod' x a.ctb)

  pub in_ctb-lt : x - start < a.ctb
  in_ctb-lt =
      let positive : 0 < a.ctb = omega (arith, h.low) in
      omega (arith, in_ctb_lem, mod-lt x positive)

-- ---- the first that a rule finds, as code has it

-- the first virtual boundary that passes
pub virtual_found : (test : ℕ → Bool) (xs : List ℕ)
    → clip_of (option_map (λ v. record { cause = VirtualBoundary; position = v }) (find test xs)) ≡ first.find test xs
unfolding first.find
virtual_found test [] = refl
virtual_found test (v ∷ vs) =
    elim (test v)
    as (λ b.
    clip_of (option_map (λ n. record { cause = VirtualBoundary; position = n }) (cond b (Some v) (find test vs)))
    ≡ (only b VirtualBoundary v or_else first.find test vs))
    [ true ↦ refl | false ↦ virtual_found test vs ]

-- the first of three
pub first_of_three : (a b c : Option Clip) → clip_of (option_or (option_or a b) c) ≡ (clip_of a or_else clip_of b or_else clip_of c)
first_of_three (Some a) b c = refl
first_of_three None (Some b) c = refl
first_of_three None None c = refl
