-- What is returned where the list has no room for four causes: the fault of the room, or an earlier one. Assumes nothing.
use mathlib.Core.Path.{◌≡◌, refl, ◌∙◌, ap}
use mathlib.Core.Bool.{Bool, true, false, ◌&&◌, cond}
use mathlib.Core.List.{List}
use Prim.Native.Nat.{ℕ, zero, suc}
use lib.Dec.{ltb}
use Rattle.alf_spec.specs.declared.SideCauses.{SideCauses}
use Rattle.alf_spec.specs.Input.{Layout}
use Rattle.alf_spec.specs.Faults.{picture_size_valid, ctb_size_valid, bit_depth_valid, chroma_format_valid, layout_lengths_valid}
use Rattle.alf_spec.specs.Faults.{virtual_boundaries_valid, tiles_valid, slices_valid, subpictures_valid, position_valid, unless, layout_fault}
use Rattle.alf_spec.specs.Faults.{causes_fault}
use Rattle.alf_spec.specs.Answers.{cause_numbers, kept}
use Rattle.alf_c.specs.Calls.{without_room}

-- ---- the fault of the room

-- where there is no room, the number a becomes b
record Roomless (a b : ℕ) : Type 0 where
  is : without_room a ≡ b

-- a fault below 5 is judged before that of the room, and one above 5 after it
earlier : (t : Bool) (n : ℕ) {a b : ℕ} → without_room n ≡ n → Roomless a b → Roomless (unless t n a) (unless t n b)
unfolding unless
earlier true n e h = h
earlier false n e h = record { is = e }

later : (t : Bool) (n : ℕ) {a : ℕ} → without_room n ≡ 5 → Roomless a 5 → Roomless (unless t n a) 5
unfolding unless
later true n e h = h
later false n e h = record { is = e }

at_room : (t : Bool) (b : ℕ) {a : ℕ} → Roomless a 5 → Roomless (unless (t && true) 5 a) (unless (t && false) 5 b)
unfolding unless
at_room true b h = h
at_room false b h = record { is = refl }

pub room-fault : (l : Layout) (x y : ℕ) → without_room (causes_fault l true x y) ≡ causes_fault l false x y
unfolding causes_fault layout_fault
room-fault l x y =
    let p = l.picture in
    (earlier (picture_size_valid p) 1 refl
    (earlier (ctb_size_valid p) 2 refl
    (earlier (bit_depth_valid p) 3 refl
    (earlier (chroma_format_valid p && true) 4 refl
    (at_room (layout_lengths_valid l) _
    (later (virtual_boundaries_valid l) 6 refl
    (later (tiles_valid l) 7 refl
    (later (slices_valid l) 8 refl
    (later (subpictures_valid l) 9 refl
    (later (position_valid p x y) 15 refl (record { is = refl }))))))))))
    ).is

-- the number without room is that of a fault, so nothing is written
room-kept : (n : ℕ) (new old : List ℕ) → old ≡ kept (without_room n) new old
room-kept zero new old = refl
room-kept (suc n) new old = by (ltb 0 (suc n) && ltb (suc n) 5)
  where
    by : (t : Bool) → old ≡ kept (cond t (suc n) 5) new old
    by true = refl
    by false = refl

-- what is returned without room, where n is the operation's number
pub no_room : (l : Layout) (x y : ℕ) (c : SideCauses) (old : List ℕ) {n r : ℕ} → n ≡ causes_fault l true x y → r ≡ without_room n
    → (r ≡ causes_fault l false x y) × (old ≡ kept (causes_fault l false x y) (cause_numbers c) old)
no_room l x y c old {n} h w =
    let same : without_room n ≡ causes_fault l false x y = ap without_room h ∙ room-fault l x y in
    (w ∙ same, rw (← same) (room-kept n (cause_numbers c) old))
