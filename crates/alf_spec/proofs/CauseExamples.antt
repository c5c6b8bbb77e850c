-- 02, card 1, worked out: the causes at a sample's sides beside each kind of border, which one is named where several apply, and when a
-- position is rejected. Assumes nothing.
use mathlib.Core.Path.{◌≡◌, refl}
use mathlib.Core.Bool.{Bool, true, false}
use mathlib.Core.List.{List, [], ◌∷◌}
use Prim.Native.Nat.{ℕ}
use lib.ListN.{replicate}
use Rattle.alf_spec.specs.Input.{Layout, picture_of, layout_of}
use Rattle.alf_spec.specs.Causes.{column_cause, row_cause, causes_at}
use Rattle.alf_spec.specs.Faults.{causes_fault}
use Rattle.alf_spec.specs.Answers.{cause_numbers}
use Rattle.alf_spec.proofs.Computed.{computed_result, computed_fault}

-- 64 by 64 samples, two by two CTBs of 32. The right CTBs are of another tile and subpicture than the left ones, and all but the first are
-- of another slice. Subpicture 0, on the left, has its switch off; that of subpicture 1 is on. What varies: the tile and the slice switch,
-- and the virtual boundaries.
abbrev quarters : Bool → Bool → List ℕ → List ℕ → Layout
quarters tiles slices columns rows =
    layout_of (picture_of 64 64 5 8 0 2 tiles slices) columns rows (0 ∷ 1 ∷ []) (0 ∷ 0 ∷ []) (0 ∷ 1 ∷ 1 ∷ 1 ∷ []) (0 ∷ 1 ∷ 0 ∷ 1 ∷ [])
    (0 ∷ replicate 63 1)

-- by number: top, bottom, left, right
abbrev causes : Layout → ℕ → ℕ → List ℕ
causes l x y = cause_numbers (causes_at l x y)

pub sides :
    -- the picture's rim is open
    (causes (quarters false false [] []) 0 0 ≡ 0 ∷ 0 ∷ 0 ∷ 0 ∷ [])
    -- tile, slice and subpicture all disable the side right of (31, 0); the switches take one after the other away
    × (causes (quarters false false [] []) 31 0 ≡ 0 ∷ 0 ∷ 0 ∷ 3 ∷ [])
    × (causes (quarters true false [] []) 31 0 ≡ 0 ∷ 0 ∷ 0 ∷ 4 ∷ [])
    × (causes (quarters true true [] []) 31 0 ≡ 0 ∷ 0 ∷ 0 ∷ 5 ∷ [])
    -- from the other side, this CTB's own subpicture switch counts, and it is on
    × (causes (quarters true true [] []) 32 0 ≡ 0 ∷ 0 ∷ 0 ∷ 0 ∷ [])
    -- a virtual boundary is tested before the CTB's side, where 32 is both
    × (causes (quarters false false (32 ∷ []) []) 31 0 ≡ 0 ∷ 0 ∷ 0 ∷ 2 ∷ [])
    × (causes (quarters false false (32 ∷ []) []) 32 0 ≡ 0 ∷ 0 ∷ 2 ∷ 0 ∷ [])
    -- down column 8: the line is 5 below row 23 and 4 below row 24, then above, with the slice below; row 34 is the last near that slice
    × (causes (quarters false false [] []) 8 23 ≡ 0 ∷ 0 ∷ 0 ∷ 0 ∷ [])
    × (causes (quarters false false [] []) 8 24 ≡ 0 ∷ 1 ∷ 0 ∷ 0 ∷ [])
    × (causes (quarters false false [] []) 8 28 ≡ 1 ∷ 4 ∷ 0 ∷ 0 ∷ [])
    × (causes (quarters false false [] []) 8 31 ≡ 1 ∷ 4 ∷ 0 ∷ 0 ∷ [])
    × (causes (quarters false false [] []) 8 32 ≡ 4 ∷ 0 ∷ 0 ∷ 0 ∷ [])
    × (causes (quarters false false [] []) 8 34 ≡ 4 ∷ 0 ∷ 0 ∷ 0 ∷ [])
    × (causes (quarters false false [] []) 8 35 ≡ 0 ∷ 0 ∷ 0 ∷ 0 ∷ [])
    -- a virtual row where the slice begins
    × (causes (quarters false false [] (32 ∷ [])) 8 28 ≡ 1 ∷ 2 ∷ 0 ∷ 0 ∷ [])
    × (causes (quarters false false [] (32 ∷ [])) 8 33 ≡ 2 ∷ 0 ∷ 0 ∷ 0 ∷ [])
unfolding computed_result column_cause row_cause causes_at
sides = (refl, refl, refl, refl, refl, refl, refl, refl, refl, refl, refl, refl, refl, refl, refl, refl)

pub numbers :
    -- 15 is for a position outside, on either axis
    (causes_fault (quarters false false (32 ∷ []) []) true 63 63 ≡ 0)
    × (causes_fault (quarters false false (32 ∷ []) []) true 64 63 ≡ 15)
    × (causes_fault (quarters false false (32 ∷ []) []) true 63 64 ≡ 15)
    -- and is judged last: 6 comes first; without room for the causes it is 5
    × (causes_fault (quarters false false (4 ∷ []) []) true 64 63 ≡ 6)
    × (causes_fault (quarters false false (4 ∷ []) []) false 64 63 ≡ 5)
unfolding computed_fault
numbers = (refl, refl, refl, refl, refl)
