-- How a bank file is read, and when it is refused (02, card 2). A field is given by the bytes from its tag to the end of the file; where
-- those end too early, missing bytes read as 0, and the field is cut short. Assumes nothing.
use Rattle.std.specs.Prelude.{Bool, true, false, not, ◌&&◌, ◌||◌, cond, List, [], ◌∷◌, ◌++◌, ℕ, zero, suc, ◌+◌, ◌-◌, ◌*◌, ◌^◌, eqb, leb, ltb, ℤ, pos, negsuc, length, get_or, drop, replicate}
use Rattle.alf_spec.specs.Lists.{implies, all_below}
use Rattle.alf_spec.specs.Faults.{unless, depth_valid}
use Rattle.alf_lists.specs.Overwrite.{overwrite}
use Rattle.alf_bank.specs.declared.FilterId.{FilterId}
use Rattle.alf_bank.specs.Filters.{table, by_tag, shape_of, size_of, order_of, id_valid, start_of}

-- ---- a field

abbrev pub tag_of : List ℕ → ℕ
tag_of field = get_or field 0 0

-- "a two-byte length, most significant first"
unfoldable pub length_of : List ℕ → ℕ
length_of field = 256 * get_or field 1 0 + get_or field 2 0

-- byte j of the value
abbrev pub value_at : List ℕ → ℕ → ℕ
value_at field j = get_or field (3 + j) 0

-- the filter that the tag and the leading numbers name
unfoldable pub id_of : List ℕ → FilterId
id_of field =
    record {
      tag = tag_of field;
      aps = value_at field 0;
      component = by_tag (tag_of field) 0 0 (value_at field 1);
      filter = by_tag (tag_of field) (value_at field 1) (value_at field 1) (value_at field 2);
    }

-- one byte in two's complement
unfoldable pub signed_byte : ℕ → ℤ
signed_byte b = cond (ltb b 128) (pos b) (negsuc (255 - b))

-- coefficient j
unfoldable pub coeff_at : List ℕ → ℕ → ℤ
coeff_at field j = signed_byte (value_at field ((shape_of (tag_of field)).leads + j))

-- clip j
unfoldable pub clip_at : List ℕ → ℕ → ℕ
clip_at field j =
    256 * value_at field ((shape_of (tag_of field)).leads + (shape_of (tag_of field)).coeffs + 2 * j)
    + value_at field ((shape_of (tag_of field)).leads + (shape_of (tag_of field)).coeffs + 2 * j + 1)

-- the numbers of the filter
unfoldable pub field_numbers : List ℕ → List ℤ
field_numbers field =
    table (shape_of (tag_of field)).coeffs (coeff_at field) ++ table (shape_of (tag_of field)).clips (λ j. pos (clip_at field j))

-- ---- what a field must be

-- not "cut short": tag and length are there, and as many bytes as the length says
unfoldable pub whole : List ℕ → Bool
whole field = leb 3 (length field) && leb (3 + length_of field) (length field)

-- tag 1 with 1 byte, 2 with 38, 3 with 20, 4 with 10
unfoldable pub listed : List ℕ → Bool
listed field =
    (eqb (tag_of field) 1 && eqb (length_of field) 1)
    || (leb 2 (tag_of field) && (leb (tag_of field) 4 && eqb (length_of field) (size_of (shape_of (tag_of field)))))

unfoldable pub is_depth : List ℕ → Bool
is_depth field = eqb (tag_of field) 1

-- clips up to a limit, which is 2^B
unfoldable pub clip_fits : ℕ → List ℕ → ℕ → Bool
clip_fits limit field j = leb (clip_at field j) limit

unfoldable pub clips_valid : ℕ → List ℕ → Bool
clips_valid limit field = all_below (shape_of (tag_of field)).clips (clip_fits limit field)

-- byte j after the leading numbers is zero
unfoldable pub byte_zero : List ℕ → ℕ → Bool
byte_zero field j = eqb (value_at field ((shape_of (tag_of field)).leads + j)) 0

-- coefficients and clips are all zero: their bytes are
unfoldable pub zero_field : List ℕ → Bool
zero_field field = all_below ((shape_of (tag_of field)).coeffs + 2 * (shape_of (tag_of field)).clips) (byte_zero field)

-- tag 1 comes first; then filters that rise, from place `from` of file order on, and are not all zero
unfoldable pub in_place : Bool → ℕ → List ℕ → Bool
in_place true from field = is_depth field
in_place false from field = not (is_depth field) && (leb from (order_of (id_of field)) && not (zero_field field))

-- "a depth or clip is judged only in a whole field of listed tag and length"
unfoldable pub proper : List ℕ → Bool
proper field = whole field && listed field

-- the lowest number of a fault in the field, or 0. A clip is judged "only after a good tag 1", so not in the first field.
unfoldable pub field_fault : Bool → ℕ → ℕ → List ℕ → ℕ
field_fault first limit from field =
    unless (implies (proper field && is_depth field) (depth_valid (value_at field 0))) 3
    (unless (implies (proper field && (not first && not (is_depth field))) (clips_valid limit field)) 11
    (unless (whole field) 16
    (unless (listed field && (is_depth field || id_valid (id_of field))) 17
    (unless (in_place first from field) 18 0))))

-- ---- a file

-- where the fields of a row of bytes begin, the first after `skip` bytes
unfoldable pub fields : List ℕ → ℕ → List (List ℕ)
fields [] skip = []
fields (b ∷ row) zero = (b ∷ row) ∷ fields row (2 + length_of (b ∷ row))
fields (b ∷ row) (suc skip) = fields row skip

-- "the first faulty field decides"
abbrev pub first_of : ℕ → ℕ → ℕ
first_of zero rest = rest
first_of (suc n) rest = suc n

-- of the fields after tag 1; `from` is the first place in file order that may come
unfoldable pub filters_fault : ℕ → ℕ → List (List ℕ) → ℕ
filters_fault limit from [] = 0
filters_fault limit from (f ∷ fs) = first_of (field_fault false limit from f) (filters_fault limit (suc (order_of (id_of f))) fs)

-- of all fields; an empty file lacks tag 1
unfoldable pub fields_fault : List (List ℕ) → ℕ
fields_fault [] = 18
fields_fault (f ∷ fs) = first_of (field_fault true 0 0 f) (filters_fault (2 ^ value_at f 0) 0 fs)

-- the depth of an accepted file: the value of its first field
unfoldable pub read_depth : List ℕ → ℕ
read_depth file = value_at file 0

-- a bank with the filters of some fields written over it
unfoldable pub filled : List ℤ → List (List ℕ) → List ℤ
filled bank [] = bank
filled bank (f ∷ fs) = filled (overwrite (start_of (id_of f)) (field_numbers f) bank) fs

-- the bank of an accepted file: zeros, and the filters of the fields after tag 1
unfoldable pub read_bank : List ℕ → List ℤ
read_bank file = filled (replicate 6016 (pos 0)) (fields (drop 4 file) 0)

-- ---- the reader's answer

-- its number (`number_of` of the reader's Result), 0 where it accepts; a bank of wrong length is judged "before any field"
unfoldable pub read_fault : List ℕ → ℕ → ℕ
read_fault file bank_length = unless (eqb bank_length 6016) 5 (fields_fault (fields file 0))
