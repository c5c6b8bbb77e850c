-- A loop that stores the entries of a list one by one, from a place on: what it has stored so far, and in the end. Assumes nothing.
use mathlib.Core.Path.{◌≡◌, refl, ◌∙◌}
use mathlib.Core.List.{List, append_assoc}
use Prim.Native.Nat.{ℕ, ◌+◌, ◌<◌, ◌≤◌}
use native.Mathlib.Omega.{arith}
use native.Mathlib.Nat.{le_antisymm}
use native.Mathlib.Numerals.{add-one}
use lib.ListN.{length, get_or, set, length-set}
use lib.Seq.{paste, paste-zero, paste-suc, take-length}
use Rattle.alf_lists.specs.Overwrite.{overwrite}

-- `new` is `old` with the first j entries of s stored from place `at` on
pub record Pasted {A : Type 0} (at : ℕ) (s old : List A) (j : ℕ) (new : List A) : Type 0 where
  pub within : j ≤ length s
  pub len : length new ≡ length old
  pub is : new ≡ paste old at s j

module _ {A : Type 0} where
  pub paste_none : (at : ℕ) (s old : List A) → Pasted at s old 0 old
  paste_none at s old = record { within = omega arith; len = refl; is = paste-zero old at s }

  -- a turn of the loop stores w, which is entry j
  pub paste_more : {at : ℕ} {s old new : List A} {j : ℕ} (d w : A) → Pasted at s old j new → at + length s ≤ length old → j < length s
      → w ≡ get_or s j d → Pasted at s old (j + 1) (set new (at + j) w)
  paste_more {at} {s} {old} {new} {j} d w p fits h e =
      record {
        within = omega arith;
        len = length-set new (at + j) w ∙ p.len;
        is = rw (add-one, e, p.is) (paste-suc old at s j d (omega arith) h);
      }

  pub paste_done : {at : ℕ} {s old new : List A} {j : ℕ} → Pasted at s old j new → length s ≤ j → new ≡ overwrite at s old
  unfolding overwrite
  paste_done {s = s} p h = p.is ∙ rw (le_antisymm p.within h, take-length s) (simp append_assoc)
