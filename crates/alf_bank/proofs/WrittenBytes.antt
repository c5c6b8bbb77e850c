-- The entries of a file that the writer makes are bytes. Assumes nothing.
use mathlib.Core.Path.{◌≡◌, refl}
use mathlib.Core.Bool.{Bool, true, false}
use mathlib.Core.List.{List, [], ◌∷◌, ◌++◌}
use Prim.Native.Nat.{ℕ, zero, suc, ◌+◌, ◌/◌, ◌%◌, ◌<◌, ◌≤◌, ◌^◌}
use native.Mathlib.Omega.{arith}
use lib.IntN.{ℤ}
use lib.Pow.{pow_mono}
use Rattle.alf_spec.specs.Faults.{depth_valid}
use Rattle.alf_spec.proofs.Tests.{within_bounds}
use Rattle.alf_bank.specs.declared.FilterId.{FilterId}
use Rattle.alf_bank.specs.Filters.{table, shape_of, size_of, leads_of}
use Rattle.alf_bank.specs.Writing.{words, filter_number, all_zero, filter_value, filter_field, filter_fields, bank_file}
use Rattle.alf_bank.proofs.DecodedFields.{ByteReads}
use Rattle.alf_bank.proofs.FieldFaults.{size_small}
use Rattle.alf_bank.proofs.FileOrder.{Kind, luma, chroma, cross, kind_at}
use Rattle.alf_bank.proofs.Tables.{byte_small}
use Rattle.alf_bank.proofs.ValidBanks.{Valid}

-- ---- lists of bytes

data AllBytes : List ℕ → Type 0 where
  none : AllBytes []
  more : (b : ℕ) {l : List ℕ} → b < 256 → AllBytes l → AllBytes (b ∷ l)

reads : {l : List ℕ} → AllBytes l → ByteReads l
reads none k = omega arith
reads (more b h r) zero = h
reads (more b h r) (suc k) = reads r k

append_bytes : {a b : List ℕ} → AllBytes a → AllBytes b → AllBytes (a ++ b)
append_bytes none q = q
append_bytes (more b h p) q = more b h (append_bytes p q)

table_bytes : (n : ℕ) (f : ℕ → ℕ) → ((k : ℕ) → k < n → f k < 256) → AllBytes (table n f)
unfolding table
table_bytes zero f h = none
table_bytes (suc n) f h = more (f 0) (h 0 (omega arith)) (table_bytes n (λ k. f (suc k)) (λ k l. h (suc k) (omega arith)))

words_bytes : (n : ℕ) (f : ℕ → ℕ) → ((k : ℕ) → k < n → f k < 65536) → AllBytes (words n f)
unfolding words
words_bytes zero f h = none
words_bytes (suc n) f h =
    let first = h 0 (omega arith) in
    more (f 0 / 256) (omega arith) (more (f 0 % 256) (omega arith) (words_bytes n (λ k. f (suc k)) (λ k l. h (suc k) (omega arith))))

-- ---- the file

tag_small : {i : FilterId} → Kind i → i.tag < 256
tag_small (luma a f p q) = omega arith
tag_small (chroma a f p q) = omega arith
tag_small (cross a c f p r q) = omega arith

leads_bytes : {i : FilterId} → Kind i → AllBytes (leads_of i)
unfolding leads_of
leads_bytes (luma a f p q) = more a (omega arith) (more f (omega arith) none)
leads_bytes (chroma a f p q) = more a (omega arith) (more f (omega arith) none)
leads_bytes (cross a c f p r q) = more a (omega arith) (more c (omega arith) (more f (omega arith) none))

module _ {limit : ℕ} {bank : List ℤ} (small : limit ≤ 4096) (ok : Valid limit bank) where
  value_bytes : {i : FilterId} → Kind i → AllBytes (filter_value bank i)
  unfolding filter_value
  value_bytes {i} k =
      append_bytes (leads_bytes k)
      (append_bytes (table_bytes _ _ (λ j h. byte_small (filter_number bank i j) (ok.coeffs i k j h)))
      (words_bytes _ _ (λ j h. let c = (ok.clips i k j h).1 in omega arith)))

  field_bytes_lem : {i : FilterId} → Kind i → AllBytes (filter_field bank i)
  unfolding filter_field
  field_bytes_lem {i} k = by_test (all_zero bank i) refl
    where
      by_test : (t : Bool) → all_zero bank i ≡ t → AllBytes (filter_field bank i)
      by_test true e = rw e none
      by_test false e =
          let size = size_small i.tag in
          rw e (more i.tag (tag_small k) (more 0 (omega arith) (more (size_of (shape_of i.tag)) (omega arith) (value_bytes k))))

  fields_bytes : (n k : ℕ) → n + k ≡ 328 → AllBytes (filter_fields n k bank)
  unfolding filter_fields
  fields_bytes zero k e = none
  fields_bytes (suc n) k e = append_bytes (field_bytes_lem (kind_at k (omega arith))) (fields_bytes n (suc k) (omega arith))

pub file_bytes : (depth : ℕ) (bank : List ℤ) → depth_valid depth ≡ true → Valid (2 ^ depth) bank → ByteReads (bank_file depth bank)
unfolding bank_file
file_bytes depth bank deep ok =
    let d = within_bounds 8 12 depth deep in
    let rest = fields_bytes (pow_mono d.1) ok 328 0 refl in
    reads (more 1 (omega arith) (more 0 (omega arith) (more 1 (omega arith) (more depth (omega arith) rest))))
