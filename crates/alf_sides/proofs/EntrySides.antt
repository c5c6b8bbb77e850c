-- An entry holds the sides that were put into it, and a table keeps its entries as it is written one after the other. Assumes nothing.
use mathlib.Core.Path.{◌≡◌, ap, ◌∙◌}
use mathlib.Core.Bool.{Bool, true, false}
use mathlib.Core.List.{List}
use Prim.Native.Nat.{ℕ, ◌+◌, ◌*◌, ◌/◌, ◌%◌, ◌≤◌, ◌<◌}
use native.Mathlib.Omega.{arith}
use borrow.Author.Count.{below_more}
use lib.Dec.{eqb}
use lib.ListN.{length, get_or, set}
use lib.Seq.{get_or-set_same, get_or-set_other}
use Rattle.alf_spec.specs.declared.ClipCause.{ClipCause}
use Rattle.alf_spec.specs.declared.ClipCause.TheVariants.{Open, LineBufferBoundary, VirtualBoundary, Tile, Slice, Subpicture}
use Rattle.alf_spec.specs.declared.Ctb.{Ctb}
use Rattle.alf_spec.specs.declared.Sides.{Sides}
use Rattle.alf_spec.specs.Input.{Layout}
use Rattle.alf_spec.specs.Answers.{cause_number}
use Rattle.alf_boundary.specs.Tables.{SidesOf}
use Rattle.alf_sides.specs.Entries.{corner_bit, entry_of, cause_numbered, sides_in}

-- a cause's number is an octal digit, a corner's a bit
pub cause_small : (c : ClipCause) → cause_number c ≤ 5
cause_small Open = omega arith
cause_small LineBufferBoundary = omega arith
cause_small VirtualBoundary = omega arith
cause_small Tile = omega arith
cause_small Slice = omega arith
cause_small Subpicture = omega arith

corner_small : (b : Bool) → corner_bit b ≤ 1
corner_small true = omega arith
corner_small false = omega arith

-- back from the number of a cause, and of a corner
cause_back : (c : ClipCause) {n : ℕ} → n ≡ cause_number c → cause_numbered n ≡ c
unfolding cause_numbered
cause_back Open e = rw e
cause_back LineBufferBoundary e = rw e
cause_back VirtualBoundary e = rw e
cause_back Tile e = rw e
cause_back Slice e = rw e
cause_back Subpicture e = rw e

corner_back : (b : Bool) {n : ℕ} → n ≡ corner_bit b → eqb n 1 ≡ b
corner_back true e = rw e
corner_back false e = rw e

-- six numbers in one, and back
module _ (a b c d e f : ℕ) (ha : a ≤ 5) (hb : b ≤ 5) (hc : c ≤ 5) (hd : d ≤ 5) (he : e ≤ 1) (hf : f ≤ 1) where
  abbrev entry : ℕ
  entry = (a + 8 * b) + (64 * c + 512 * d) + (4096 * e + 8192 * f)

  parts : (entry % 8 ≡ a) × (entry / 8 % 8 ≡ b) × (entry / 64 % 8 ≡ c) × (entry / 512 % 8 ≡ d) × (entry / 4096 % 2 ≡ e)
      × (entry / 8192 % 2 ≡ f)
  parts = (omega arith, omega arith, omega arith, omega arith, omega arith, omega arith)

-- the entry for a CTB's sides holds them
pub entry_sides : {l : Layout} {c : Ctb} {s : Sides} {n : ℕ} → SidesOf l c s → n ≡ entry_of s → SidesOf l c (sides_in n)
entry_sides {s = s} of e =
    let p = parts _ _ _ _ _ _ (cause_small s.left) (cause_small s.right) (cause_small s.top) (cause_small s.bottom)
    (corner_small s.upper_left) (corner_small s.lower_right) in
    record {
      left = cause_back s.left (ap (λ (n : ℕ). n % 8) e ∙ p.0) ∙ of.left;
      right = cause_back s.right (ap (λ (n : ℕ). n / 8 % 8) e ∙ p.1) ∙ of.right;
      top = cause_back s.top (ap (λ (n : ℕ). n / 64 % 8) e ∙ p.2) ∙ of.top;
      bottom = cause_back s.bottom (ap (λ (n : ℕ). n / 512 % 8) e ∙ p.3) ∙ of.bottom;
      upper_left = corner_back s.upper_left (ap (λ (n : ℕ). n / 4096 % 2) e ∙ p.4) ∙ of.upper_left;
      lower_right = corner_back s.lower_right (ap (λ (n : ℕ). n / 8192 % 2) e ∙ p.5) ∙ of.lower_right;
    }

-- the CTBs of a grid with so many in a row: where each entry before k holds the sides of its CTB, and the entry at k those of its own, each
-- before k + 1 does
pub next-sides : (l : Layout) (columns : ℕ) (table : List ℕ) (k entry : ℕ) → k < length table → let ctb : ℕ → Ctb =
    λ j. record { column = j % columns; row = j / columns } in
    ((j : ℕ) → j < k → SidesOf l (ctb j) (sides_in (get_or table j 0))) → SidesOf l (ctb k) (sides_in entry)
    → (j : ℕ) → j < k + 1 → SidesOf l (ctb j) (sides_in (get_or (set table k entry) j 0))
next-sides l columns table k entry h all here =
    below_more (λ j. SidesOf l (record { column = j % columns; row = j / columns }) (sides_in (get_or (set table k entry) j 0))) k
    (λ j below. let apart : j ≡ k → ⊥ = λ e. omega arith in rw (get_or-set_other table k j entry 0 apart) (all j below))
    (rw (get_or-set_same table k entry 0 h) here)
