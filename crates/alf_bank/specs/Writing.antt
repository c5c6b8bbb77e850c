-- The file that the writer makes of a bank at a bit depth, and when it refuses (02, card 2). Assumes nothing.
use Rattle.std.specs.Prelude.{Bool, ◌&&◌, cond, List, [], ◌∷◌, ◌++◌, ℕ, zero, suc, ◌+◌, ◌-◌, ◌/◌, ◌%◌, eqb, leb, ℤ, pos, negsuc, nat_abs, length, get_or}
use Rattle.alf_spec.specs.Lists.{all_below}
use Rattle.alf_spec.specs.Faults.{unless, depth_valid, bank_numbers_valid}
use Rattle.alf_bank.specs.declared.FilterId.{FilterId}
use Rattle.alf_bank.specs.Filters.{table, shape_of, size_of, count_of, filter_at, leads_of, start_of}

-- "a coefficient is one byte in two's complement"
unfoldable pub byte_of : ℤ → ℕ
byte_of (pos n) = n
byte_of (negsuc n) = 255 - n

-- "a clip two bytes, most significant first": those of f 0, .., f (n - 1)
unfoldable pub words : ℕ → (ℕ → ℕ) → List ℕ
words zero f = []
words (suc n) f = f zero / 256 ∷ f zero % 256 ∷ words n (λ k. f (suc k))

-- number j of a filter: its coefficients, then its clips
unfoldable pub filter_number : List ℤ → FilterId → ℕ → ℤ
filter_number bank i j = get_or bank (start_of i + j) (pos 0)

unfoldable pub zero_at : List ℤ → FilterId → ℕ → Bool
zero_at bank i j = eqb (nat_abs (filter_number bank i j)) 0

-- coefficients and clips are all zero
unfoldable pub all_zero : List ℤ → FilterId → Bool
all_zero bank i = all_below (count_of (shape_of i.tag)) (zero_at bank i)

-- leading numbers, coefficients, clips
unfoldable pub filter_value : List ℤ → FilterId → List ℕ
filter_value bank i =
    leads_of i
    ++ (table (shape_of i.tag).coeffs (λ j. byte_of (filter_number bank i j))
    ++ words (shape_of i.tag).clips (λ j. nat_abs (filter_number bank i ((shape_of i.tag).coeffs + j))))

-- "a one-byte tag, a two-byte length, most significant first, then the value"; a filter that is all zero "is left out"
unfoldable pub filter_field : List ℤ → FilterId → List ℕ
filter_field bank i = cond (all_zero bank i) [] (i.tag ∷ 0 ∷ size_of (shape_of i.tag) ∷ filter_value bank i)

-- the fields of n filters in file order, from place k on
unfoldable pub filter_fields : ℕ → ℕ → List ℤ → List ℕ
filter_fields zero k bank = []
filter_fields (suc n) k bank = filter_field bank (filter_at k) ++ filter_fields n (suc k) bank

-- "tag 1 is the bit depth, one byte", and comes first; then the filters
unfoldable pub bank_file : ℕ → List ℤ → List ℕ
bank_file depth bank = 1 ∷ 0 ∷ 1 ∷ depth ∷ filter_fields 328 0 bank

-- ---- the writer's answer

-- 3, 5 or 11, the lowest that applies, for a buffer of so many bytes; 0 where the writer accepts
unfoldable pub write_fault : ℕ → List ℤ → ℕ → ℕ
write_fault depth bank room =
    unless (depth_valid depth) 3
    (unless (eqb (length bank) 6016 && leb 10508 room) 5
    (unless (bank_numbers_valid depth bank) 11 0))
