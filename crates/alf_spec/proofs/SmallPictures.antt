-- Samples of small pictures worked out by the definitions: classes and the three filters, with rows on both sides of the line-buffer
-- boundary. The numbers were found by a separate model of H.266 and paper 01 that goes sample by sample. Whole pictures stand in the crate
-- `spec_examples`, since they take long to compute. Assumes nothing.
use mathlib.Core.Path.{◌≡◌, refl}
use mathlib.Core.Bool.{Bool, true, false, ◌&&◌, ◌||◌, cond}
use mathlib.Core.List.{List, [], ◌∷◌, ◌++◌, map}
use Prim.Native.Nat.{ℕ, zero, suc, ◌+◌, ◌*◌, ◌/◌, ◌%◌}
use lib.IntN.{pos, ◌-ℤ◌}
use lib.Dec.{leb, ltb}
use lib.ListN.{replicate}
use Rattle.alf_spec.specs.Input.{Input, luma_input, classes}
use Rattle.alf_spec.specs.Geometry.{luma_plane}
use Rattle.alf_spec.specs.Luma.{luma_sample}
use Rattle.alf_spec.specs.Chroma.{chroma_sample}
use Rattle.alf_spec.specs.CrossComponent.{cross_sample}
use Rattle.alf_spec.specs.Process.{class_at, luma_on, is_filtered, result_of}
use Rattle.alf_spec.proofs.Computed.{computed_result}
use Rattle.alf_spec.proofs.Examples.{picture, layout}
use Rattle.alf_spec.proofs.WorkedExamples.{grid, input}

-- ---- one CTB of 32 by 32, depth 10, with a texture

abbrev count_from : ℕ → ℕ → List ℕ
count_from k zero = []
count_from k (suc n) = k ∷ count_from (suc k) n

abbrev texture : ℕ → ℕ → List ℕ
texture width n = map (λ k. 300 + (k % width * 53 + k / width * 11 + k % width * (k / width) * 7) % 95) (count_from 0 n)

-- 25 repeated 12 coefficients and 12 clips, 8 repeated 6 and 6, then coefficients alone
abbrev clip_place : ℕ → Bool
clip_place n = (ltb n 600 && leb 12 (n % 24)) || (leb 600 n && (ltb n 696 && leb 6 (n % 12)))

-- in a chroma format, with so many columns and rows of chroma
abbrev ctb32 : ℕ → ℕ → ℕ → Input
ctb32 format columns rows = record {
  layout = layout (picture 32 32 5 10 format 1) [] (0 ∷ []) (0 ∷ []) (0 ∷ []) (0 ∷ []) (replicate 64 1);
  luma = texture 32 1024;
  chroma = texture columns (columns * rows);
  slice_params = 2 ∷ 6 ∷ 1 ∷ 0 ∷ 0 ∷ 0 ∷ 0 ∷ 0 ∷ 4 ∷ 2 ∷ 7 ∷ [];
  bank = map (λ k. cond (clip_place (k % 752)) (pos (5 * k % 401)) (pos (k * 7 % 41) -ℤ pos 20)) (count_from 0 6016);
  ctb_params = 1 ∷ 1 ∷ 1 ∷ 17 ∷ 3 ∷ 5 ∷ 2 ∷ 4 ∷ [];
  ctb_list = 0 ∷ [];
  fixed_filters = replicate 768 (pos 0);
  fixed_map = replicate 400 0;
  output_length = columns * rows;
}

abbrev pub ctb420 : Input
ctb420 = ctb32 1 16 16

abbrev pub ctb422 : Input
ctb422 = ctb32 2 16 32

abbrev pub ctb444 : Input
ctb444 = ctb32 3 32 32

-- ---- two CTBs side by side, 64 by 8 luma samples, with luma flags and a list

abbrev two_ctbs : ℕ → ℕ → List ℕ → Input
two_ctbs flag0 flag1 list =
    let ctb_params : List ℕ = (flag0 ∷ replicate 7 0) ++ (flag1 ∷ replicate 7 0) in
    luma_input (grid 2 1 64 8 (0 ∷ 0 ∷ [])) (replicate 22 0) (replicate 6016 (pos 0)) ctb_params list (replicate 768 (pos 0))
    (replicate 400 0) (replicate 512 0) 512

-- whether the last sample of CTB 0 and the first of CTB 1, in rows 0 and 1, are filtered
abbrev filtered_at : Input → List Bool
filtered_at i = map (is_filtered i (luma_plane i.layout) (luma_on i)) (31 ∷ 32 ∷ 95 ∷ 96 ∷ [])

-- ---- the claims

pub numbers :
    -- the classes of P12's picture
    (result_of classes (input 16 3) ≡ 17 ∷ 96 ∷ 17 ∷ 84 ∷ [])
    -- of the texture: the classes of three blocks, one above the other, at column 8 and rows 20, 24 and 28
    × (map (class_at ctb420.layout ctb420.luma) (42 ∷ 50 ∷ 58 ∷ []) ≡ 67 ∷ 100 ∷ 35 ∷ [])
    -- luma at column 9, rows 23 to 31
    × (map (luma_sample ctb420 9) (count_from 23 9) ≡ 394 ∷ 369 ∷ 346 ∷ 357 ∷ 308 ∷ 380 ∷ 380 ∷ 327 ∷ 303 ∷ [])
    -- chroma and cross-component at column 3, rows 10 to 15, or 24 to 31 where chroma has full height
    × (map (chroma_sample ctb420 0 3) (count_from 10 6) ≡ 288 ∷ 334 ∷ 397 ∷ 303 ∷ 335 ∷ 376 ∷ [])
    × (map (cross_sample ctb420 1 3) (count_from 10 6) ≡ 306 ∷ 327 ∷ 368 ∷ 300 ∷ 344 ∷ 379 ∷ [])
    × (map (chroma_sample ctb422 0 3) (count_from 24 8) ≡ 391 ∷ 293 ∷ 325 ∷ 397 ∷ 299 ∷ 342 ∷ 374 ∷ 299 ∷ [])
    × (map (cross_sample ctb422 1 3) (count_from 24 8) ≡ 372 ∷ 309 ∷ 336 ∷ 368 ∷ 317 ∷ 342 ∷ 384 ∷ 301 ∷ [])
    × (map (chroma_sample ctb444 0 3) (count_from 24 8) ≡ 391 ∷ 293 ∷ 325 ∷ 397 ∷ 299 ∷ 342 ∷ 374 ∷ 299 ∷ [])
    × (map (cross_sample ctb444 1 3) (count_from 24 8) ≡ 367 ∷ 325 ∷ 332 ∷ 379 ∷ 306 ∷ 343 ∷ 371 ∷ 320 ∷ [])
unfolding computed_result
numbers = (refl, refl, refl, refl, refl, refl, refl, refl, refl)

-- what is filtered: listed CTBs whose flag is on, whatever their order and repeats
pub filtered :
    (filtered_at (two_ctbs 1 1 []) ≡ replicate 4 false)
    × (filtered_at (two_ctbs 1 1 (1 ∷ [])) ≡ false ∷ true ∷ false ∷ true ∷ [])
    × (filtered_at (two_ctbs 1 1 (0 ∷ 1 ∷ [])) ≡ replicate 4 true)
    × (filtered_at (two_ctbs 1 1 (1 ∷ 1 ∷ 0 ∷ [])) ≡ replicate 4 true)
    × (filtered_at (two_ctbs 1 0 (1 ∷ 0 ∷ [])) ≡ true ∷ false ∷ true ∷ false ∷ [])
unfolding computed_result
filtered = (refl, refl, refl, refl, refl)
