-- An input for each cause of rejection, and inputs that each kind of operation accepts, worked out by the definitions. Assumes nothing.
use mathlib.Core.Path.{◌≡◌, refl}
use mathlib.Core.Bool.{true, false}
use mathlib.Core.List.{List, [], ◌∷◌, ◌++◌, map}
use Prim.Native.Nat.{ℕ, ◌+◌, ◌*◌}
use lib.IntN.{ℤ, pos, negsuc}
use lib.ListN.{replicate, get_or, set}
use Rattle.alf_spec.specs.declared.Picture.{Picture}
use Rattle.alf_spec.specs.Input.{Layout, layout_of, classes, luma, chroma, cross_component}
use Rattle.alf_spec.specs.Input.{Input, input_of, luma_input, chroma_input, cross_input}
use Rattle.alf_spec.specs.Faults.{size_valid, ctb_size_valid, bit_depth_valid, chroma_format_valid}
use Rattle.alf_spec.specs.Faults.{layout_lengths_valid, lengths_valid, virtual_list_valid}
use Rattle.alf_spec.specs.Faults.{virtual_boundaries_valid, tiles_valid}
use Rattle.alf_spec.specs.Faults.{slices_valid, subpictures_valid}
use Rattle.alf_spec.specs.Faults.{parameters_valid, bank_number_valid, cross_coeff_valid, cross_filter_valid}
use Rattle.alf_spec.specs.Faults.{tables_fault, fault, isolation_fault}
use Rattle.alf_spec.proofs.Computed.{computed_fault}
use Rattle.alf_spec.proofs.Examples.{picture, layout}

-- ---- a picture of two by two CTBs of 32, of which a number or a list can be chosen

abbrev sized : ℕ → ℕ → ℕ → ℕ → ℕ → Picture
sized width log2 depth format count = picture width 40 log2 depth format count

abbrev good : Picture
good = sized 40 5 8 1 2

abbrev mapped : Picture → List ℕ → List ℕ → List ℕ → List ℕ → List ℕ → Layout
mapped p columns tiles slices subpics switches = layout p columns tiles (0 ∷ 0 ∷ []) slices subpics switches

-- in one tile, slice and subpicture
abbrev plain : Picture → Layout
plain p = mapped p [] (0 ∷ 0 ∷ []) (replicate 4 0) (replicate 4 0) (replicate 64 1)

abbrev small_input : Layout → List ℕ → List ℕ → List ℤ → List ℕ → List ℕ → ℕ → Input
small_input l slice_params ctb_params bank plane list output_length =
    input_of l plane (replicate 400 0) slice_params bank ctb_params list (replicate 768 (pos 0)) (replicate 400 63) output_length

abbrev zeros : ℕ → List ℕ
zeros n = replicate n 0

abbrev flat : List ℤ
flat = replicate 6016 (pos 0)

-- with all else in order
abbrev on_layout : Layout → Input
on_layout l = small_input l (zeros 22) (zeros 32) flat (zeros 1600) [] 1600

abbrev on_tables : List ℕ → List ℕ → List ℤ → List ℕ → List ℕ → Input
on_tables slice_params ctb_params bank plane list = small_input (plain good) slice_params ctb_params bank plane list 1600

-- a chroma filter's, in a chroma format, with so many chroma samples
abbrev in_format : ℕ → ℕ → Input
in_format format n = chroma_input (plain (sized 40 5 8 format 2)) (zeros 22) flat (zeros 32) [] (zeros n) n

-- a layout with all but one of its tables in order
abbrev of_columns : List ℕ → Layout
of_columns columns = mapped good columns (0 ∷ 0 ∷ []) (zeros 4) (zeros 4) (replicate 64 1)

abbrev of_rows : List ℕ → Layout
of_rows rows = layout_of good [] rows (zeros 2) (zeros 2) (zeros 4) (zeros 4) (replicate 64 1)

abbrev of_tiles : List ℕ → Layout
of_tiles tiles = mapped good [] tiles (zeros 4) (zeros 4) (replicate 64 1)

abbrev of_tile_rows : List ℕ → Layout
of_tile_rows tiles = layout good [] (0 ∷ 1 ∷ []) tiles (zeros 4) (zeros 4) (replicate 64 1)

abbrev of_slices : List ℕ → Layout
of_slices slices = mapped good [] (0 ∷ 1 ∷ []) slices (zeros 4) (replicate 64 1)

abbrev of_subpictures : List ℕ → ℕ → Layout
of_subpictures subpics switch = mapped good [] (0 ∷ 1 ∷ []) (1 ∷ 0 ∷ 0 ∷ 0 ∷ []) subpics (replicate 64 switch)

-- an input in which the second CTB's number k is v, and its slice has one luma APS
abbrev of_ctb_number : ℕ → ℕ → Input
of_ctb_number k v = on_tables (set (zeros 22) 0 1) (set (zeros 32) (8 + k) v) [] [] []

-- the eight numbers of a CTB
abbrev eight : List ℕ
eight = 0 ∷ 1 ∷ 2 ∷ 3 ∷ 4 ∷ 5 ∷ 6 ∷ 7 ∷ []

-- a picture without chroma, in which the second CTB's number k is 1
abbrev without_chroma : ℕ → Input
without_chroma k = small_input (plain (sized 40 5 8 0 2)) (zeros 22) (set (zeros 32) (8 + k) 1) [] [] [] 0

-- a chroma filter's input and a cross-component filter's, with these chroma samples; the bank, which has been judged by then, is left out
abbrev of_chroma : List ℕ → Input
of_chroma samples = chroma_input (plain good) (zeros 22) [] (zeros 32) [] samples 400

abbrev of_cross : List ℕ → Input
of_cross samples = cross_input (plain good) (zeros 22) [] (zeros 32) [] (zeros 1600) samples 400

-- the luma filter's input, without a bank, with a coefficient of the fixed filters and an entry of the fixed map
abbrev of_fixed : ℤ → ℕ → Input
of_fixed z n =
    luma_input (plain good) (zeros 22) [] (zeros 32) [] (set (replicate 768 (pos 0)) 767 z) (set (zeros 400) 399 n) (zeros 1600) 1600

-- a bank that ends with the last coefficient of Cb's last cross-component filter of an APS
abbrev of_coeff : ℕ → ℤ → List ℤ
of_coeff aps z = replicate (752 * aps + 723) (pos 0) ++ (z ∷ [])

-- ---- the number that an input is given. Each has a whole input; what shares its number with others from 11 on is judged with the tables
-- alone, and without a bank.

-- accepted, by each kind of operation
pub accepted :
    (fault luma (on_layout (plain good)) ≡ 0)
    × (fault (chroma 1) (small_input (plain good) (zeros 22) (zeros 32) flat [] (3 ∷ 3 ∷ []) 400) ≡ 0)
    × (fault classes (small_input (plain good) [] [] [] (zeros 1600) [] 100) ≡ 0)
    × (isolation_fault (plain good) (zeros 25) ≡ 0)
unfolding computed_fault
accepted = (refl, refl, refl, refl)

-- 1 to 9
pub layout-numbers :
    -- width, CTB size, depth
    (fault luma (on_layout (plain (sized 12 5 8 1 2))) ≡ 1)
    × (fault luma (on_layout (plain (sized 40 8 8 1 2))) ≡ 2)
    × (fault luma (on_layout (plain (sized 40 5 13 1 2))) ≡ 3)
    -- a chroma mark that is none; a chroma filter without chroma; a component that is neither Cb nor Cr
    × (fault luma (on_layout (plain (sized 40 5 8 4 2))) ≡ 4)
    × (fault (chroma 0) (on_layout (plain (sized 40 5 8 0 2))) ≡ 4)
    × (fault (cross_component 2) (on_layout (plain good)) ≡ 4)
    -- more slices than there may be, and than the parameters are for; an output that is too short
    × (fault luma (on_layout (plain (sized 40 5 8 1 257))) ≡ 5)
    × (fault luma (on_layout (plain (sized 40 5 8 1 3))) ≡ 5)
    × (fault luma (small_input (plain good) (zeros 22) (zeros 32) flat (zeros 1600) [] 1599) ≡ 5)
    -- a region has a number for each of the 5 by 5 blocks
    × (isolation_fault (plain good) (zeros 24) ≡ 5)
    × (isolation_fault (plain good) (zeros 26) ≡ 5)
    -- virtual columns and rows, tile columns and rows, slices, subpictures
    × (fault luma (on_layout (of_columns (4 ∷ []))) ≡ 6)
    × (fault luma (on_layout (of_rows (4 ∷ []))) ≡ 6)
    × (fault luma (on_layout (of_tiles (0 ∷ 2 ∷ []))) ≡ 7)
    × (fault luma (on_layout (of_tile_rows (0 ∷ 2 ∷ []))) ≡ 7)
    × (fault luma (on_layout (of_slices (0 ∷ 0 ∷ 0 ∷ 2 ∷ []))) ≡ 8)
    × (fault luma (on_layout (of_subpictures (0 ∷ 0 ∷ 64 ∷ 64 ∷ []) 1)) ≡ 9)
unfolding computed_fault
layout-numbers = (refl, refl, refl, refl, refl, refl, refl, refl, refl, refl, refl, refl, refl, refl, refl, refl, refl)

-- 10 to 14
pub table-numbers :
    -- a slice parameter, the bank
    (fault luma (on_tables (set (zeros 22) 21 8) (zeros 32) flat (zeros 1600) []) ≡ 10)
    × (fault luma (on_tables (zeros 22) (zeros 32) (set flat 6015 (pos 128)) (zeros 1600) []) ≡ 11)
    -- fixed coefficients from −128 to 127, entries of the fixed map up to 63
    × (tables_fault luma (of_fixed (negsuc 127) 63) ≡ 0)
    × (tables_fault luma (of_fixed (pos 127) 0) ≡ 0)
    × (tables_fault luma (of_fixed (negsuc 128) 0) ≡ 11)
    × (tables_fault luma (of_fixed (pos 128) 0) ≡ 11)
    × (tables_fault luma (of_fixed (pos 0) 64) ≡ 11)
    -- a luma sample, and a chroma sample of either filter that is given chroma
    × (fault luma (on_tables (zeros 22) (zeros 32) flat (set (zeros 1600) 1599 256) []) ≡ 12)
    × (tables_fault (chroma 0) (of_chroma (set (zeros 400) 399 256)) ≡ 12)
    × (tables_fault (cross_component 1) (of_cross (set (zeros 400) 399 256)) ≡ 12)
    -- an address, a number of a region
    × (fault luma (on_tables (zeros 22) (zeros 32) flat (zeros 1600) (0 ∷ 4 ∷ [])) ≡ 13)
    × (isolation_fault (plain good) (set (zeros 25) 24 2) ≡ 14)
    -- the lowest of several
    × (fault luma (small_input (plain (sized 12 8 13 2 0)) [] [] [] [] (9 ∷ []) 0) ≡ 1)
unfolding computed_fault
table-numbers = (refl, refl, refl, refl, refl, refl, refl, refl, refl, refl, refl, refl, refl)

-- ---- what the test of each number passes, and what not

-- 1 to 5
pub picture_tests :
    -- 1, of 01: width 8 and 4,096 pass; 0, 12 and 4,104 do not
    (map size_valid (8 ∷ 4096 ∷ 0 ∷ 12 ∷ 4104 ∷ []) ≡ true ∷ true ∷ false ∷ false ∷ false ∷ [])
    -- 2 to 4: exponents of the CTB size, depths, chroma marks
    × (map (λ k. ctb_size_valid (sized 40 k 8 1 2)) (4 ∷ 5 ∷ 7 ∷ 8 ∷ []) ≡ false ∷ true ∷ true ∷ false ∷ [])
    × (map (λ b. bit_depth_valid (sized 40 5 b 1 2)) (7 ∷ 8 ∷ 12 ∷ 13 ∷ []) ≡ false ∷ true ∷ true ∷ false ∷ [])
    × (map (λ k. chroma_format_valid (sized 40 5 8 k 2)) (0 ∷ 1 ∷ 2 ∷ 3 ∷ 4 ∷ []) ≡ true ∷ true ∷ true ∷ true ∷ false ∷ [])
    -- 5: slice counts; a chroma plane as long as its format says, 20 by 20 samples in 4:2:0, 20 by 40 in 4:2:2, 40 by 40 in 4:4:4
    × (map (λ n. layout_lengths_valid (plain (sized 40 5 8 1 n))) (0 ∷ 1 ∷ 256 ∷ 257 ∷ []) ≡ false ∷ true ∷ true ∷ false ∷ [])
    × (map (λ n. lengths_valid (chroma 0) (in_format 1 n)) (400 ∷ 800 ∷ 1600 ∷ []) ≡ true ∷ false ∷ false ∷ [])
    × (map (λ n. lengths_valid (chroma 0) (in_format 2 n)) (400 ∷ 800 ∷ 1600 ∷ []) ≡ false ∷ true ∷ false ∷ [])
    × (map (λ n. lengths_valid (chroma 0) (in_format 3 n)) (400 ∷ 800 ∷ 1600 ∷ []) ≡ false ∷ false ∷ true ∷ [])
unfolding computed_fault
picture_tests = (refl, refl, refl, refl, refl, refl, refl, refl)

-- 6 to 9
pub layout_tests :
    -- 6: virtual columns; virtual rows; three virtual boundaries, and a fourth, all at least a CTB apart
    (map (λ v. virtual_boundaries_valid (of_columns v)) ((8 ∷ []) ∷ (32 ∷ []) ∷ (4 ∷ []) ∷ (40 ∷ []) ∷ (8 ∷ 32 ∷ []) ∷ [])
    ≡ true ∷ true ∷ false ∷ false ∷ false ∷ [])
    × (map (λ v. virtual_boundaries_valid (of_rows v)) ((8 ∷ []) ∷ (4 ∷ []) ∷ (40 ∷ []) ∷ []) ≡ true ∷ false ∷ false ∷ [])
    × (map (virtual_list_valid 264 32) ((8 ∷ 72 ∷ 136 ∷ []) ∷ (8 ∷ 72 ∷ 136 ∷ 200 ∷ []) ∷ []) ≡ true ∷ false ∷ [])
    -- 7: tile columns, tile rows
    × (map (λ t. tiles_valid (of_tiles t)) ((0 ∷ 1 ∷ []) ∷ (1 ∷ 1 ∷ []) ∷ (0 ∷ 2 ∷ []) ∷ []) ≡ true ∷ false ∷ false ∷ [])
    × (map (λ t. tiles_valid (of_tile_rows t)) ((0 ∷ 1 ∷ []) ∷ (1 ∷ 1 ∷ []) ∷ (0 ∷ 2 ∷ []) ∷ []) ≡ true ∷ false ∷ false ∷ [])
    -- 8: slice maps that the corner rule allows, and numbers that are not below the slice count
    × (map (λ s. slices_valid (of_slices s)) ((1 ∷ 0 ∷ 0 ∷ 0 ∷ []) ∷ (0 ∷ 0 ∷ 0 ∷ 1 ∷ []) ∷ (0 ∷ 1 ∷ 1 ∷ 0 ∷ []) ∷ (0 ∷ 0 ∷ 1 ∷ 1 ∷ []) ∷ [])
    ≡ replicate 4 true)
    × (map (λ s. slices_valid (of_slices s)) ((0 ∷ 0 ∷ 0 ∷ 2 ∷ []) ∷ (2 ∷ 0 ∷ 0 ∷ 0 ∷ []) ∷ []) ≡ false ∷ false ∷ [])
    -- 9: subpicture maps that the corner rule allows, numbers above 63, and switches that are neither 0 nor 1
    × (map (λ s. subpictures_valid (of_subpictures s 0)) ((0 ∷ 63 ∷ 0 ∷ 63 ∷ []) ∷ (0 ∷ 1 ∷ 2 ∷ 3 ∷ []) ∷ []) ≡ true ∷ true ∷ [])
    × (map (λ s. subpictures_valid (of_subpictures s 0)) ((0 ∷ 0 ∷ 1 ∷ 2 ∷ []) ∷ (1 ∷ 0 ∷ 0 ∷ 1 ∷ []) ∷ []) ≡ true ∷ true ∷ [])
    × (map (λ s. subpictures_valid (of_subpictures s 1)) ((64 ∷ 64 ∷ 64 ∷ 64 ∷ []) ∷ (0 ∷ 0 ∷ 64 ∷ 64 ∷ []) ∷ []) ≡ false ∷ false ∷ [])
    × (map (λ n. subpictures_valid (of_subpictures (zeros 4) n)) (0 ∷ 1 ∷ 2 ∷ []) ≡ true ∷ true ∷ false ∷ [])
unfolding computed_fault
layout_tests = (refl, refl, refl, refl, refl, refl, refl, refl, refl, refl, refl)

-- 10 and 11
pub table_tests :
    -- 10: each number of a CTB at its largest, and one above it
    (map (λ k. parameters_valid (of_ctb_number k (get_or (1 ∷ 1 ∷ 1 ∷ 16 ∷ 7 ∷ 7 ∷ 4 ∷ 4 ∷ []) k 0))) eight ≡ replicate 8 true)
    × (map (λ k. parameters_valid (of_ctb_number k (get_or (2 ∷ 2 ∷ 2 ∷ 17 ∷ 8 ∷ 8 ∷ 5 ∷ 5 ∷ []) k 0))) eight ≡ replicate 8 false)
    -- without chroma (chroma mark 0) the luma flag and the luma set may be 1, and the other six numbers of a CTB must be 0
    × (map (λ k. parameters_valid (without_chroma k)) eight ≡ true ∷ false ∷ false ∷ true ∷ false ∷ false ∷ false ∷ false ∷ [])
    -- 11: clips up to 2^B, where coefficients end at 127: numbers 12 and 606 of an APS are clips, 0 and 751 coefficients
    × (map (λ n. bank_number_valid 8 n (pos 256)) (12 ∷ 606 ∷ []) ≡ true ∷ true ∷ [])
    × (map (λ n. bank_number_valid 8 n (negsuc 127)) (0 ∷ 751 ∷ []) ≡ true ∷ true ∷ [])
    × (bank_number_valid 8 12 (negsuc 0) ∷ bank_number_valid 8 606 (pos 257) ∷ [] ≡ false ∷ false ∷ [])
    × (bank_number_valid 8 0 (negsuc 128) ∷ bank_number_valid 8 751 (pos 128) ∷ [] ≡ false ∷ false ∷ [])
unfolding computed_fault
table_tests = (refl, refl, refl, refl, refl, refl, refl)

-- 21
pub cross_tests :
    -- either sign of the smallest and the largest power pass; of 3, 65 and 127 neither, nor −128, which has one bit set
    (map cross_coeff_valid (pos 0 ∷ pos 1 ∷ negsuc 0 ∷ pos 64 ∷ negsuc 63 ∷ []) ≡ replicate 5 true)
    × (map cross_coeff_valid (pos 3 ∷ negsuc 2 ∷ pos 65 ∷ negsuc 64 ∷ pos 127 ∷ negsuc 127 ∷ []) ≡ replicate 6 false)
    -- the filter whose coefficient it is, and those next to it: Cb's second to last, Cr's first, and that of the APS before
    × (map (cross_filter_valid (of_coeff 1 (pos 3)) 1 0) (2 ∷ 3 ∷ []) ≡ true ∷ false ∷ [])
    × (cross_filter_valid (of_coeff 1 (pos 3)) 1 1 0 ∷ cross_filter_valid (of_coeff 1 (pos 3)) 0 0 3 ∷ [] ≡ true ∷ true ∷ [])
unfolding computed_fault
cross_tests = (refl, refl, refl, refl)
