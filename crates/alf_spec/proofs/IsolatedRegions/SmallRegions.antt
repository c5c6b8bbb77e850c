-- Regions that can be judged at sight: one of no block, a subpicture beside one that filters across its sides, a block beside a virtual
-- boundary. Assumes nothing.
use mathlib.Core.Path.{◌≡◌, refl}
use mathlib.Core.Bool.{Bool, true, false}
use mathlib.Core.List.{List, [], ◌∷◌}
use Prim.Native.Nat.{ℕ, zero, suc}
use lib.ListN.{replicate, get_or}
use Rattle.alf_spec.specs.Input.{Layout}
use Rattle.alf_spec.specs.Isolation.{open_step, column_step, row_step, diagonal_step, inside, stays_inside, isolated, region_of}
use Rattle.alf_spec.specs.Isolation.{subpic_region}
use Rattle.alf_spec.specs.Faults.{isolation_fault}
use Rattle.alf_spec.proofs.Tests.{at_all}
use Rattle.alf_spec.proofs.Computed.{computed_result, computed_fault}
use Rattle.alf_spec.proofs.Examples.{picture, layout}

zero_at_lem : (n k : ℕ) → get_or (replicate {A = ℕ} n 0) k 0 ≡ 0
zero_at_lem zero k = refl
zero_at_lem (suc n) zero = refl
zero_at_lem (suc n) (suc k) = zero_at_lem n k

-- 01: an area of no block is shut
pub zeros_isolated : (l : Layout) (n : ℕ) → isolated l (replicate n 0) ≡ true
unfolding inside isolated
zeros_isolated l n = at_all _ _ (λ y row. at_all _ _ (λ x column. simp zero_at_lem))

-- 64 by 8 luma samples, two CTBs of 32, in one tile and slice, each a subpicture; with the left one's switch
abbrev pub subpictures : ℕ → Layout
subpictures switch = layout (picture 64 8 5 8 0 1) [] (0 ∷ 0 ∷ []) (0 ∷ []) (0 ∷ 0 ∷ []) (0 ∷ 1 ∷ []) (switch ∷ replicate 63 1)

-- off
abbrev pub two_subpictures : Layout
two_subpictures = subpictures 0

-- 16 by 8 luma samples, one CTB, with these virtual columns; and its left block
abbrev pub two_blocks : List ℕ → Layout
two_blocks columns = layout (picture 16 8 5 8 0 1) columns (0 ∷ []) (0 ∷ []) (0 ∷ []) (0 ∷ []) (replicate 64 1)

abbrev left_block : List ℕ
left_block = 1 ∷ 0 ∷ []

-- the number that a region is given, and whether it is isolated
abbrev judged : Layout → List ℕ → ℕ × Bool
judged l region = (isolation_fault l region, isolated l region)

pub regions :
    -- 01: two subpictures side by side in one tile and slice, no virtual boundary, left switch off, right on: the left area is shut, the
    -- right is not
    (judged two_subpictures (subpic_region two_subpictures 0) ≡ (0, true))
    × (judged two_subpictures (subpic_region two_subpictures 1) ≡ (0, false))
    -- 01: a side step is shut on a virtual boundary
    × (judged (two_blocks (8 ∷ [])) left_block ≡ (0, true))
    × (judged (two_blocks []) left_block ≡ (0, false))
unfolding computed_result computed_fault open_step column_step row_step diagonal_step inside stays_inside isolated region_of subpic_region
regions = (refl, refl, refl, refl)
