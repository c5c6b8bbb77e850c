-- Laws of a list with another written over a part of it, and of two written one after the other. Assumes nothing.
use mathlib.Core.Path.{◌≡◌, refl, sym, ◌∙◌}
use mathlib.Core.Bool.{Bool, true, false}
use mathlib.Core.List.{List, [], ◌++◌, append_assoc}
use Prim.Native.Nat.{ℕ, ◌+◌, ◌-◌, ◌<◌, ◌≤◌}
use native.Mathlib.Omega.{arith}
use native.Mathlib.Nat.{add-zero}
use borrow.Author.Tests.{ltb-true, ltb-false}
use lib.Dec.{ltb}
use lib.ListN.{length, get_or, drop, length-drop, length-append, get_or-append, take, take-append-drop}
use lib.Seq.{get_or-drop, drop-drop, get_or-append-add, get_or-take, length-take-le, drop-append-add, take_at}
use Rattle.alf_lists.specs.Overwrite.{overwrite}

-- ---- one list over another

module _ {A : Type 0} (at : ℕ) (xs old : List A) (fits : at + length xs ≤ length old) where
  -- where the written part ends, and what stays behind it
  abbrev end : ℕ
  end = at + length xs

  abbrev behind : List A
  behind = drop (at + length xs) old

  front_length : length (take at old) ≡ at
  front_length = length-take-le at old (omega arith)

  pub overwrite-length : length (overwrite at xs old) ≡ length old
  unfolding overwrite
  overwrite-length = simp (length-append, length-drop, front_length) (omega arith)

  -- past what stays in front
  past_front : (d : A) (k : ℕ) → get_or (overwrite at xs old) (at + k) d ≡ get_or (xs ++ behind) k d
  unfolding overwrite
  past_front d k = rw front_length at (get_or-append-add (take at old) (xs ++ behind) k d)

  pub overwrite_in : (d : A) (k : ℕ) → k < length xs → get_or (overwrite at xs old) (at + k) d ≡ get_or xs k d
  overwrite_in d k h = past_front d k ∙ get_or-append xs behind d k h

  overwrite-before : (d : A) (k : ℕ) → k < at → get_or (overwrite at xs old) k d ≡ get_or old k d
  unfolding overwrite
  overwrite-before d k h = get_or-append (take at old) (xs ++ behind) d k (rw front_length h) ∙ get_or-take at old k d h

  overwrite-after : (d : A) (k : ℕ) → end ≤ k → get_or (overwrite at xs old) k d ≡ get_or old k d
  overwrite-after d k h =
      let from_front : at + (length xs + (k - end)) ≡ k = omega arith in
      let from_start : end + (k - end) ≡ k = omega arith in
      rw from_front at (past_front d (length xs + (k - end))) ∙ get_or-append-add xs behind (k - end) d
      ∙ rw from_start at (get_or-drop end old (k - end) d)

  pub overwrite_outside : (d : A) (k : ℕ) → (at ≤ k → k < at + length xs → ⊥) → get_or (overwrite at xs old) k d ≡ get_or old k d
  overwrite_outside d k ne = by_side (ltb k at) refl (ltb k end) refl
    where
      by_side : (s : Bool) → ltb k at ≡ s → (t : Bool) → ltb k end ≡ t → get_or (overwrite at xs old) k d ≡ get_or old k d
      by_side true p t q = overwrite-before d k (ltb-true k at p)
      by_side false p true q = absurd (ne (ltb-false k at p) (ltb-true k end q))
      by_side false p false q = overwrite-after d k (ltb-false k end q)

-- nothing over a list
pub overwrite_none : {A : Type 0} (at : ℕ) (old : List A) → old ≡ overwrite at [] old
unfolding overwrite
overwrite_none at old = sym (rw add-zero (take-append-drop at old))

-- ---- two lists, the second right behind the first

module _ {A : Type 0} (at : ℕ) (xs ys old : List A) (fits : at + (length xs + length ys) ≤ length old) where
  -- what the first leaves: up to its end, and behind it
  abbrev upto : List A
  upto = take at old ++ xs

  abbrev rest : List A
  rest = drop (at + length xs) old

  upto-length : length upto ≡ at + length xs
  upto-length = simp (length-append, length-take-le at old (omega arith))

  total : at + length xs + length ys ≡ at + length (xs ++ ys)
  total = simp length-append (omega arith)

  stays : drop (at + length xs + length ys) (upto ++ rest) ≡ drop (at + length (xs ++ ys)) old
  stays = rw upto-length at (drop-append-add upto rest (length ys)) ∙ drop-drop (length ys) (at + length xs) old ∙ rw total

  pub overwrite_join : overwrite (at + length xs) ys (overwrite at xs old) ≡ overwrite at (xs ++ ys) old
  unfolding overwrite
  overwrite_join =
      rw (← append_assoc (take at old) xs rest, take_at upto rest (at + length xs) upto-length, stays) (simp append_assoc)
