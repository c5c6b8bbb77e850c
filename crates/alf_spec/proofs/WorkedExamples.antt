-- Paper 01's worked examples P1 to P12, as rows of one claim about the definitions. Each row is proved by computing both sides.
-- Assumes nothing.
use mathlib.Core.Path.{◌≡◌, refl}
use mathlib.Core.Bool.{true, false}
use mathlib.Core.List.{List, [], ◌∷◌, ◌++◌, map}
use mathlib.Core.Option.{Option, some, none}
use Prim.Native.Nat.{ℕ, ◌*◌}
use lib.IntN.{ℤ, pos, negsuc}
use lib.ListN.{replicate}
use Rattle.alf_spec.specs.declared.Class.{Class}
use Rattle.alf_spec.specs.Arithmetic.{rounded}
use Rattle.alf_spec.specs.Input.{Layout, Input, luma_input}
use Rattle.alf_spec.specs.Geometry.{Side, before, after, luma_plane, ctb_at, line_rule}
use Rattle.alf_spec.specs.Padding.{row_clip, padded_column, padded_row}
use Rattle.alf_spec.specs.Classes.{activity, class_of_sums}
use Rattle.alf_spec.specs.Classes.{block_class}
use Rattle.alf_spec.specs.Luma.{luma_c, luma_sample}
use Rattle.alf_spec.proofs.Computed.{computed_result}
use Rattle.alf_spec.proofs.Examples.{picture, layout, repeated}

-- ---- what the examples are about; what 01 leaves open in one is chosen here

-- columns by rows CTBs of 32 luma samples, depth 8, in one tile and one subpicture, with the slice switch off
abbrev pub grid : ℕ → ℕ → ℕ → ℕ → List ℕ → Layout
grid columns rows width height slices =
    layout (picture width height 5 8 0 2) [] (replicate columns 0) (replicate rows 0) slices (replicate (columns * rows) 0) (replicate 64 1)

-- four CTBs in one slice, and with another slice upper left
abbrev plain : ℕ → Layout
plain height = grid 2 2 64 height (replicate 4 0)

abbrev cornered : Layout
cornered = grid 2 2 64 64 (0 ∷ 1 ∷ 1 ∷ 1 ∷ [])

-- the clip position above or below a row of the CTB at 0, with no virtual row
abbrev row_edge : ℕ → Side → Option ℕ
row_edge y d = row_clip (plain 64) (luma_plane (plain 64)) 0 y d

-- the class of the sums V, H, D0, D1, with depth 8 and factor 2
abbrev classed : ℕ → ℕ → ℕ → ℕ → Class
classed v h d0 d1 = class_of_sums 8 2 (record { v = v; h = h; d0 = d0; d1 = d1 })

abbrev class : ℕ → ℕ → Class
class filter transpose = record { filter = filter; transpose = transpose }

-- 8 by 8 luma samples: at (3, 1) stands 10, right of it 14, left of it 10. Two others give the block the transpose 0.
abbrev pub plane : List ℕ
plane =
    (10 ∷ 10 ∷ 10 ∷ 10 ∷ 10 ∷ 10 ∷ 10 ∷ 10 ∷ [])
    ++ (10 ∷ 10 ∷ 10 ∷ 10 ∷ 14 ∷ 10 ∷ 10 ∷ 10 ∷ [])
    ++ (30 ∷ 10 ∷ 10 ∷ 10 ∷ 10 ∷ 10 ∷ 10 ∷ 10 ∷ [])
    ++ (30 ∷ 10 ∷ 10 ∷ 10 ∷ 10 ∷ 10 ∷ 10 ∷ 10 ∷ [])
    ++ replicate 32 10

-- twelve coefficients of which the last, 11, alone is set, to 64
abbrev pub coefficients : List ℤ
coefficients = replicate 11 (pos 0) ++ (pos 64 ∷ [])

-- that plane, with a luma set and a bank whose luma clips are all c
abbrev pub input : ℕ → ℕ → Input
input set c =
    let bank : List ℤ = repeated 8 (repeated 25 (coefficients ++ replicate 12 (pos c)) ++ replicate 152 (pos 0)) in
    let ctb_params : List ℕ = 1 ∷ 0 ∷ 0 ∷ set ∷ 0 ∷ 0 ∷ 0 ∷ 0 ∷ [] in
    luma_input (grid 1 1 8 8 (0 ∷ [])) (1 ∷ replicate 21 0) bank ctb_params (0 ∷ []) (repeated 64 coefficients) (replicate 400 0) plane 64

-- ---- the claim

pub record WorkedExamples : Type 0 where
  -- rounded by shift 7, sums −65, −64, 63, 64 give −1, 0, 0, 1
  pub P1 : map (rounded 7) (negsuc 64 ∷ negsuc 63 ∷ pos 63 ∷ pos 64 ∷ []) ≡ negsuc 0 ∷ pos 0 ∷ pos 0 ∷ pos 1 ∷ []
  -- by shift 10, 959 and 960 give 0 and 1
  pub P2 : map (rounded 10) (pos 959 ∷ pos 960 ∷ []) ≡ pos 0 ∷ pos 1 ∷ []
  -- sums V, H, D0, D1: class and transpose
  pub P3 : classed 0 0 0 0 ≡ class 0 3
  pub P4 : classed 10 2 4 4 ≡ class 20 2
  pub P5 : classed 9 2 4 4 ≡ class 15 2
  pub P6 : classed 3 3 8 1 ≡ class 10 1
  pub P7 : classed 5 0 7 0 ≡ class 20 0
  -- depth 10, factor 2: V + H of 3,839 and 3,840 give activity 3 and 4
  pub P8 : map (activity 10 2) (3839 ∷ 3840 ∷ []) ≡ 3 ∷ 4 ∷ []
  -- y = 23 has no bottom edge, 24 has 28; y = 28 has top edge 28
  pub P9 : row_edge 23 after ∷ row_edge 24 after ∷ row_edge 28 before ∷ [] ≡ none ∷ some 28 ∷ some 28 ∷ []
  -- the neighbour (31, 31) of a sample of the CTB at (32, 32) becomes (32, 31)
  pub P10 : padded_column cornered (luma_plane cornered) 32 32 31 31 ∷ padded_row cornered (luma_plane cornered) 32 32 31 31 ∷ [] ≡ 32 ∷ 31 ∷ []
  -- the CTB at y 32 has the line rule on at height 64, off at 56
  pub P11 : map (λ h. line_rule (luma_plane (plain h)).rows 32) (64 ∷ 56 ∷ []) ≡ true ∷ false ∷ []
  -- clips 256, 3 and 2 give 12, 12 and 11
  pub P12 : map (λ c. luma_sample (input 16 c) 3 1) (256 ∷ 3 ∷ 2 ∷ []) ≡ 12 ∷ 12 ∷ 11 ∷ []
  -- of P12: the block has transpose 0, and class 17; the fixed filter's clip at depth 8 is 256, and gives 12
  pub P12_class : block_class (input 0 0).layout plane 0 0 ≡ class 17 0
  pub P12_clip : luma_c (input 0 0) (ctb_at (luma_plane (input 0 0).layout) 3 1) 17 11 ≡ pos 256
  pub P12_fixed : luma_sample (input 0 0) 3 1 ≡ 12

pub worked_examples_lem : WorkedExamples
unfolding computed_result
worked_examples_lem = record {
  P1 = refl;
  P2 = refl;
  P3 = refl;
  P4 = refl;
  P5 = refl;
  P6 = refl;
  P7 = refl;
  P8 = refl;
  P9 = refl;
  P10 = refl;
  P11 = refl;
  P12 = refl;
  P12_class = refl;
  P12_clip = refl;
  P12_fixed = refl;
}
