-- What a fault's number says of what then stands in an output. Assumes nothing.
use mathlib.Core.Path.{◌≡◌, refl, sym, ◌∙◌, subst}
use Prim.Native.Nat.{ℕ, suc, pred}
use Rattle.alf_spec.specs.declared.Fault.{Fault}
use Rattle.alf_spec.specs.declared.Fault.TheVariants.{PictureSize, CtbSize, BitDepth, ChromaFormat, Length, VirtualBoundary, Tile}
use Rattle.alf_spec.specs.declared.Fault.TheVariants.{Slice, Subpicture, Parameter, Filter, Sample, Address, Region, Position}
use Rattle.alf_spec.specs.declared.Fault.TheVariants.{FieldCutShort, FieldUnlisted, FieldOutOfPlace}
use Rattle.alf_spec.specs.Answers.{fault_number, kept}

-- no fault has the number 0
pub numbered : (f : Fault) → fault_number f ≡ suc (pred (fault_number f))
numbered PictureSize = refl
numbered CtbSize = refl
numbered BitDepth = refl
numbered ChromaFormat = refl
numbered Length = refl
numbered VirtualBoundary = refl
numbered Tile = refl
numbered Slice = refl
numbered Subpicture = refl
numbered Parameter = refl
numbered Filter = refl
numbered Sample = refl
numbered Address = refl
numbered Region = refl
numbered Position = refl
numbered FieldCutShort = refl
numbered FieldUnlisted = refl
numbered FieldOutOfPlace = refl

-- ---- what stands in an output of any type

-- an input that is rejected leaves what stood there
pub kept_old : {A : Type 0} (f : Fault) {n : ℕ} → fault_number f ≡ n → (new : A) {old : A} → old ≡ kept n new old
kept_old f e new {old} = subst (λ (n : ℕ). old ≡ kept n new old) (sym (numbered f) ∙ e) refl

-- an input that is accepted leaves what is new
pub kept_new : {A : Type 0} {n : ℕ} → 0 ≡ n → {out new : A} (old : A) → out ≡ new → out ≡ kept n new old
kept_new e old w = rw (← e) w
