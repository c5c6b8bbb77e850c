-- A bank file for each cause of rejection, beside one that passes, and banks that the writer accepts and refuses, worked out by the
-- definitions. Assumes nothing.
use mathlib.Core.Path.{◌≡◌, refl}
use mathlib.Core.Bool.{true}
use mathlib.Core.List.{List, [], ◌∷◌, ◌++◌, map}
use Prim.Native.Nat.{ℕ}
use borrow.Author.Tests.{ltb-true}
use lib.IntN.{ℤ, pos, negsuc}
use lib.ListN.{replicate, take, drop, get_or, set}
use lib.Dec.{ltb}
use Rattle.alf_spec.specs.Lists.{all_below, every_from, every}
use Rattle.alf_spec.specs.Faults.{unless, coeff_valid, clip_valid, is_clip, bank_number_valid}
use Rattle.alf_spec.proofs.Tests.{every_entry}
use Rattle.alf_lists.specs.Overwrite.{overwrite}
use Rattle.alf_bank.specs.declared.FilterId.{FilterId}
use Rattle.alf_bank.specs.Filters.{table, shape_of, leads_of, id_valid, order_of, filter_at, start_of}
use Rattle.alf_bank.specs.Writing.{byte_of, words, filter_number, zero_at, all_zero, filter_value, filter_field, bank_file}
use Rattle.alf_bank.specs.Writing.{write_fault}
use Rattle.alf_bank.specs.Reading.{length_of, id_of, signed_byte, coeff_at, clip_at, field_numbers, whole, listed, is_depth, clip_fits}
use Rattle.alf_bank.specs.Reading.{clips_valid, byte_zero, zero_field, in_place, proper, field_fault, fields, filters_fault, fields_fault}
use Rattle.alf_bank.specs.Reading.{filled, read_bank, read_depth, read_fault}
use Rattle.alf_bank.proofs.BankFiles.{accepted_written}

-- to unfold one of these is to unfold each definition behind it
unfoldable computed_read : List ℕ → ℕ → ℕ
unfolding all_below unless shape_of id_valid order_of length_of id_of clip_at whole listed is_depth clip_fits clips_valid byte_zero zero_field in_place
    proper field_fault fields filters_fault fields_fault read_fault
computed_read = read_fault

unfoldable computed_bank : List ℕ → List ℤ
unfolding table shape_of start_of length_of id_of signed_byte coeff_at clip_at field_numbers fields overwrite filled read_bank
computed_bank = read_bank

unfoldable computed_field : List ℤ → FilterId → List ℕ
unfolding all_below table shape_of leads_of filter_at start_of byte_of words filter_number zero_at all_zero filter_value filter_field
computed_field = filter_field

unfoldable computed_write : ℕ → List ℤ → ℕ → ℕ
unfolding every_from unless coeff_valid clip_valid is_clip bank_number_valid write_fault
computed_write = write_fault

-- ---- fields

abbrev depth : ℕ → List ℕ
depth b = 1 ∷ 0 ∷ 1 ∷ b ∷ []

-- a luma filter of an APS, with the byte of its first coefficient and the bytes of its first clip; all else is zero
abbrev luma : ℕ → ℕ → ℕ → ℕ → ℕ → List ℕ
luma aps filter coeff high low = 2 ∷ 0 ∷ 38 ∷ aps ∷ filter ∷ coeff ∷ replicate 11 0 ++ (high ∷ low ∷ replicate 22 0)

-- a chroma alternative
abbrev chroma : ℕ → ℕ → ℕ → ℕ → ℕ → List ℕ
chroma aps alternative coeff high low = 3 ∷ 0 ∷ 20 ∷ aps ∷ alternative ∷ coeff ∷ replicate 5 0 ++ (high ∷ low ∷ replicate 10 0)

-- a cross-component filter
abbrev cross : ℕ → ℕ → ℕ → ℕ → List ℕ
cross aps component filter coeff = 4 ∷ 0 ∷ 10 ∷ aps ∷ component ∷ filter ∷ coeff ∷ replicate 6 0

-- fields behind a depth of 8
abbrev at8 : List ℕ → List ℕ
at8 row = depth 8 ++ row

-- what the reader answers, given a bank of the right length
abbrev read : List ℕ → ℕ
read file = read_fault file 6016

-- ---- the reader

pub accepted :
    -- tag 1 alone gives a bank of zeros
    (map (λ b. read (depth b)) (8 ∷ 10 ∷ 12 ∷ []) ≡ 0 ∷ 0 ∷ 0 ∷ [])
    -- every kind of filter, with its largest leading numbers; a clip of 2^8 in one that has no coefficients
    × (read (at8 (luma 7 24 1 0 0 ++ chroma 7 7 255 0 0 ++ cross 7 1 3 128)) ≡ 0)
    × (map (λ f. read (at8 f)) (luma 0 0 0 1 0 ∷ chroma 0 0 0 1 0 ∷ []) ≡ 0 ∷ 0 ∷ [])
    -- leading numbers rise: the APS first, then the component, then the filter
    × (read (at8 (luma 0 24 1 0 0 ++ luma 1 0 1 0 0 ++ cross 0 0 3 1 ++ cross 0 1 0 1)) ≡ 0)
unfolding computed_read
accepted = (refl, refl, refl, refl)

pub field_numbers_lem :
    -- 3: a depth; also of a second tag 1
    (map (λ b. read (depth b)) (7 ∷ 13 ∷ []) ≡ 3 ∷ 3 ∷ [])
    × (read (at8 (depth 13)) ≡ 3)
    -- 11: a clip of 2^8 + 1, of 2^10 and 2^10 + 1 at a depth of 10; also where a leading number is not listed, and out of order
    × (map (λ f. read (at8 f)) (luma 0 0 0 1 1 ∷ chroma 0 0 0 1 1 ∷ []) ≡ 11 ∷ 11 ∷ [])
    × (map (λ low. read (depth 10 ++ luma 0 0 0 4 low)) (0 ∷ 1 ∷ []) ≡ 0 ∷ 11 ∷ [])
    × (map (λ f. read (at8 f)) (luma 0 25 0 1 1 ∷ (luma 0 1 1 0 0 ++ luma 0 0 0 1 1) ∷ []) ≡ 11 ∷ 11 ∷ [])
    -- 16: fields that end before their length does, and values that are short by one byte
    × (map read ((1 ∷ []) ∷ (1 ∷ 0 ∷ []) ∷ (1 ∷ 0 ∷ 1 ∷ []) ∷ at8 (2 ∷ 0 ∷ []) ∷ []) ≡ replicate 4 16)
    × (map (λ n. read (at8 (take n (luma 0 0 1 0 0)))) (40 ∷ 41 ∷ []) ≡ 16 ∷ 0 ∷ [])
    × (map (λ n. read (at8 (take n (cross 0 0 0 1)))) (12 ∷ 13 ∷ []) ≡ 16 ∷ 0 ∷ [])
    -- 17: tags, first and later; lengths; leading numbers
    × (map read ((5 ∷ 0 ∷ 0 ∷ []) ∷ (1 ∷ 0 ∷ 2 ∷ 8 ∷ 8 ∷ []) ∷ (1 ∷ 1 ∷ 1 ∷ 8 ∷ replicate 256 0) ∷ []) ≡ replicate 3 17)
    × (map (λ f. read (at8 f)) ((0 ∷ 0 ∷ 0 ∷ []) ∷ (5 ∷ 0 ∷ 0 ∷ []) ∷ (4 ∷ 0 ∷ 9 ∷ replicate 9 0) ∷ []) ≡ replicate 3 17)
    × (map (λ f. read (at8 f)) (luma 8 0 1 0 0 ∷ luma 0 25 1 0 0 ∷ chroma 8 0 1 0 0 ∷ chroma 0 8 1 0 0 ∷ []) ≡ replicate 4 17)
    × (map (λ f. read (at8 f)) (cross 8 0 0 1 ∷ cross 0 2 0 1 ∷ cross 0 0 4 1 ∷ []) ≡ replicate 3 17)
    -- 18: no tag 1, where no clip is judged either; a second one
    × (map read ([] ∷ luma 0 0 1 0 0 ∷ luma 0 0 1 255 255 ∷ (cross 0 0 0 1 ++ depth 8) ∷ []) ≡ replicate 4 18)
    × (read (at8 (depth 8)) ≡ 18)
    -- all-zero filters; a filter twice; falling filters, components, APS ids, tags
    × (map (λ f. read (at8 f)) (luma 0 0 0 0 0 ∷ chroma 0 0 0 0 0 ∷ cross 0 0 0 0 ∷ []) ≡ replicate 3 18)
    × (map (λ f. read (at8 (f ++ luma 1 5 1 0 0))) (luma 1 5 1 0 0 ∷ luma 1 6 1 0 0 ∷ luma 2 4 1 0 0 ∷ []) ≡ replicate 3 18)
    × (map (λ f. read (at8 (f ++ cross 0 0 3 1))) (cross 0 1 0 1 ∷ cross 1 0 0 1 ∷ []) ≡ 18 ∷ 18 ∷ [])
    × (map (λ f. read (at8 (f ++ chroma 0 0 1 0 0))) (chroma 0 0 1 0 0 ∷ cross 0 0 0 1 ∷ []) ≡ 18 ∷ 18 ∷ [])
unfolding computed_read
field_numbers_lem = (refl, refl, refl, refl, refl, refl, refl, refl, refl, refl, refl, refl, refl, refl, refl, refl, refl, refl)

pub first_decides :
    -- 5 comes before any field
    (map (λ n. read_fault (depth 8) n) (6015 ∷ 6016 ∷ 6017 ∷ []) ≡ 5 ∷ 0 ∷ 5 ∷ [])
    × (read_fault [] 0 ≡ 5)
    -- the first faulty field decides, though a later one has a lower number
    × (read (at8 (cross 0 0 0 0 ++ depth 13)) ≡ 18)
    × (read (at8 (cross 8 0 0 1 ++ luma 0 0 0 1 1)) ≡ 17)
    × (read (luma 0 0 1 0 0 ++ depth 13) ≡ 18)
    × (read (luma 0 0 1 0 0 ++ (1 ∷ [])) ≡ 18)
    -- two faulty fields in either order
    × (read (at8 (depth 8 ++ luma 0 0 0 1 1)) ≡ 18)
    × (read (at8 (luma 0 0 0 1 1 ++ depth 8)) ≡ 11)
    -- a field whose length reaches past the end is cut short, whatever its tag
    × (read (at8 (9 ∷ 255 ∷ 255 ∷ [])) ≡ 16)
    × (read (5 ∷ []) ≡ 16)
unfolding computed_read
first_decides = (refl, refl, refl, refl, refl, refl, refl, refl, refl, refl)

pub what_is-read :
    (read_depth (at8 (cross 0 0 0 1)) ≡ 8)
    -- coefficients in two's complement, and a clip
    × (map (λ b. get_or (read_bank (at8 (cross 0 0 0 b))) 696 (pos 0)) (1 ∷ 127 ∷ 128 ∷ 255 ∷ [])
    ≡ pos 1 ∷ pos 127 ∷ negsuc 127 ∷ negsuc 0 ∷ [])
    × (take 14 (drop 24 (read_bank (at8 (luma 0 1 2 1 0)))) ≡ pos 2 ∷ replicate 11 (pos 0) ++ (pos 256 ∷ pos 0 ∷ []))
unfolding computed_bank read_depth
what_is-read = (refl, refl, refl)

-- ---- the writer

abbrev zeros : List ℤ
zeros = replicate 6016 (pos 0)

pub writer_numbers :
    -- 3: a depth; also where bank and buffer are wrong
    (map (λ b. write_fault b zeros 10508) (7 ∷ 8 ∷ 12 ∷ 13 ∷ []) ≡ 3 ∷ 0 ∷ 0 ∷ 3 ∷ [])
    × (write_fault 13 (pos 1000 ∷ []) 0 ≡ 3)
    -- 5: the buffer, though the file would fit; the bank
    × (map (λ n. write_fault 8 zeros n) (4 ∷ 10507 ∷ 10508 ∷ 10509 ∷ []) ≡ 5 ∷ 5 ∷ 0 ∷ 0 ∷ [])
    × (map (λ n. write_fault 8 (replicate n (pos 1000)) 10508) (6015 ∷ 6017 ∷ []) ≡ 5 ∷ 5 ∷ [])
    -- 11: a coefficient, a clip
    × (map (λ z. write_fault 8 (set zeros 6015 z) 10508) (negsuc 127 ∷ negsuc 128 ∷ pos 127 ∷ pos 128 ∷ []) ≡ 0 ∷ 11 ∷ 0 ∷ 11 ∷ [])
    × (map (λ z. write_fault 8 (set zeros 12 z) 10508) (negsuc 0 ∷ pos 256 ∷ pos 257 ∷ []) ≡ 11 ∷ 0 ∷ 11 ∷ [])
unfolding computed_write
writer_numbers = (refl, refl, refl, refl, refl, refl)

-- the fields of three filters that are all zero, and of a luma filter, a chroma alternative and a cross-component filter that are not
pub fields_written :
    (map (filter_field zeros) (filter_at 0 ∷ filter_at 200 ∷ filter_at 264 ∷ []) ≡ [] ∷ [] ∷ [] ∷ [])
    × (filter_field (set (set zeros 752 (negsuc 0)) 764 (pos 256)) (filter_at 25) ≡ luma 1 0 255 1 0)
    × (filter_field (set zeros 612 (negsuc 127)) (filter_at 201) ≡ chroma 0 1 128 0 0)
    × (filter_field (set zeros 745 (pos 5)) (filter_at 271) ≡ cross 0 1 3 5)
unfolding computed_field
fields_written = (refl, refl, refl, refl)

-- a whole file takes long to work out; it follows from what is read of it, since what is accepted was written
written : (file : List ℕ) → every (λ b. ltb b 256) file ≡ true → read_fault file 6016 ≡ 0 → bank_file (read_depth file) (read_bank file) ≡ file
written file bytes e =
    (accepted_written file (λ k h. ltb-true (get_or file k 0) 256 (every_entry (λ b. ltb b 256) 0 refl 0 file bytes k)) e).1

pub files_written :
    (bank_file 8 zeros ≡ depth 8)
    × (bank_file 10 (set (set zeros 752 (negsuc 0)) 6009 (pos 5)) ≡ depth 10 ++ luma 1 0 255 0 0 ++ cross 7 1 3 5)
unfolding computed_read computed_bank read_depth every_from
files_written = (written (depth 8) refl refl, written (depth 10 ++ luma 1 0 255 0 0 ++ cross 7 1 3 5) refl refl)
