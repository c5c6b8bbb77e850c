-- How much of a bank file decides (02, card 6): a file that is accepted has at most 10,508 bytes, and the first faulty field of any other
-- begins within 10,508 bytes and is judged by its first 65,538. So 76,046 bytes give the answer of the whole file. Assumes nothing.
use mathlib.Core.Path.{◌≡◌, refl, ap}
use mathlib.Core.Bool.{true, false}
use mathlib.Core.List.{List, [], ◌∷◌}
use Prim.Native.Nat.{ℕ, zero, suc, ◌+◌, ◌-◌, ◌*◌, ◌^◌, ◌≤◌}
use native.Mathlib.Omega.{arith}
use lib.Dec.{eqb}
use lib.ListN.{length, take}
use lib.Seq.{take-nil, take_all}
use Rattle.alf_spec.proofs.Accepted.{passed}
use Rattle.alf_bank.specs.declared.FilterId.{FilterId}
use Rattle.alf_bank.specs.Filters.{shape_of, size_of, order_of}
use Rattle.alf_bank.specs.Reading.{length_of, value_at, id_of, field_fault, fields, first_of, filters_fault, fields_fault}
use Rattle.alf_bank.specs.Reading.{read_depth, read_bank, read_fault}
use Rattle.alf_bank.proofs.AcceptedFiles.{none_faulty}
use Rattle.alf_bank.proofs.BankFiles.{Bytes, byte_reads}
use Rattle.alf_bank.proofs.DecodedFields.{ByteReads, kind_of}
use Rattle.alf_bank.proofs.FieldFaults.{filter_length_lem, good_of, depth_small}
use Rattle.alf_bank.proofs.FileOrder.{Kind, luma, chroma, cross}
use Rattle.bank_claims.proofs.FieldPrefixes.{same_byte, same_length, same_id, same-fault}

-- ---- the bytes of the filters' fields

-- of all from place k of file order on: 13 each, 10 more of those before place 264, 18 more of those before place 200
unfoldable room_from : ℕ → ℕ
room_from k = 13 * (328 - k) + 10 * (264 - k) + 18 * (200 - k)

room_falls : (from k : ℕ) → from ≤ k → room_from k ≤ room_from from
unfolding room_from
room_falls from k h = omega arith

room_more : {i : FilterId} → Kind i → 3 + size_of (shape_of i.tag) + room_from (suc (order_of i)) ≡ room_from (order_of i)
unfolding room_from order_of shape_of
room_more (luma a f p q) = omega arith
room_more (chroma a f p q) = omega arith
room_more (cross a c f p r q) = omega arith

-- a field with no fault takes its filter's part of them, and leaves those of later filters
field_room : (limit from : ℕ) (f : List ℕ) → field_fault false limit from f ≡ 0
    → 3 + length_of f + room_from (suc (order_of (id_of f))) ≤ room_from from
unfolding id_of
field_room limit from f e =
    let g = good_of limit from f e in
    let shape = filter_length_lem f g.known g.filter in
    let more = room_more (kind_of f shape.0 shape.1 g.leads) in
    let falls = room_falls from (order_of (id_of f)) g.after in
    omega (arith, shape.2)

-- ---- the fields after tag 1

-- what follows a fault does not matter
first-same : (a : ℕ) {x y : ℕ} → (a ≡ 0 → x ≡ y) → first_of a x ≡ first_of a y
first-same zero e = e refl
first-same (suc a) e = refl

-- of a row of bytes; the first field comes after `skip` of them, and with filters from place `from` of file order on
module _ (limit : ℕ) where
  filters-short : (row : List ℕ) (skip from : ℕ) → filters_fault limit from (fields row skip) ≡ 0 → length row ≤ skip + room_from from
  unfolding fields filters_fault
  filters-short [] skip from e = omega arith
  filters-short (b ∷ row) zero from e =
      let f : List ℕ = b ∷ row in
      let none = none_faulty (field_fault false limit from f) _ e in
      let room = field_room limit from f none.0 in
      let rest = filters-short row (2 + length_of f) (suc (order_of (id_of f))) none.1 in
      omega arith
  filters-short (b ∷ row) (suc skip) from e = let rest = filters-short row skip from e in omega arith

  -- each field that is judged begins where at least 65,538 bytes are left of the n
  filters-same : (row : List ℕ) → ByteReads row → (n skip from : ℕ) → skip + (65538 + room_from from) ≤ n
      → filters_fault limit from (fields (take n row) skip) ≡ filters_fault limit from (fields row skip)
  unfolding fields filters_fault
  filters-same [] bytes n skip from h = rw take-nil
  filters-same (b ∷ row) bytes zero skip from h = absurd (omega arith)
  filters-same (b ∷ row) bytes (suc n) zero from h =
      let f : List ℕ = b ∷ row in
      let long : 65538 ≤ suc n = omega arith in
      rw (same-fault (suc n) f long bytes false limit from, same_id (suc n) f long, same_length (suc n) f long)
      (first-same (field_fault false limit from f) (λ e.
      let room = field_room limit from f e in
      filters-same row (λ k. bytes (suc k)) n (2 + length_of f) (suc (order_of (id_of f))) (omega arith)))
  filters-same (b ∷ row) bytes (suc n) (suc skip) from h = filters-same row (λ k. bytes (suc k)) n skip from (omega arith)

-- ---- the whole file

fields-short : (file : List ℕ) → fields_fault (fields file 0) ≡ 0 → length file ≤ 10508
unfolding fields fields_fault room_from
fields-short [] e = omega arith
fields-short (b ∷ row) e =
    let file : List ℕ = b ∷ row in
    let none = none_faulty (field_fault true 0 0 file) _ e in
    let depth = depth_small file 0 0 none.0 in
    let rest = filters-short (2 ^ value_at file 0) row (2 + length_of file) 0 none.1 in
    omega arith

fields-same : (n : ℕ) (file : List ℕ) → 76046 ≤ n → ByteReads file → fields_fault (fields (take n file) 0) ≡ fields_fault (fields file 0)
unfolding fields fields_fault room_from
fields-same n [] h bytes = rw take-nil
fields-same zero (b ∷ row) h bytes = absurd (omega arith)
fields-same (suc n) (b ∷ row) h bytes =
    let file : List ℕ = b ∷ row in
    let long : 65538 ≤ suc n = omega arith in
    rw (same-fault (suc n) file long bytes true 0 0, same_byte (suc n) file long 3 (omega arith), same_length (suc n) file long)
    (first-same (field_fault true 0 0 file) (λ e.
    let depth = depth_small file 0 0 e in
    filters-same (2 ^ value_at file 0) row (λ k. bytes (suc k)) n (2 + length_of file) 0 (omega arith)))

-- ---- the claims

-- a file that is accepted is short
pub accepted-short : (file : List ℕ) (bank_length : ℕ) → read_fault file bank_length ≡ 0 → length file ≤ 10508
unfolding read_fault
accepted-short file bank_length e = fields-short file (passed (eqb bank_length 6016) 4 _ e).1

-- the answer is that of the first 76,046 bytes
pub prefix_decides : (n : ℕ) (file : List ℕ) (bank_length : ℕ) → 76046 ≤ n → Bytes file
    → read_fault (take n file) bank_length ≡ read_fault file bank_length
unfolding read_fault
prefix_decides n file bank_length h bytes = rw (fields-same n file h (byte_reads file bytes))

-- and so are the depth and the bank, where there is no fault: those bytes are the whole file
pub prefix_reads : (n : ℕ) (file : List ℕ) (bank_length : ℕ) → 76046 ≤ n → Bytes file
    → (read_fault (take n file) bank_length ≡ read_fault file bank_length)
    × (read_fault file bank_length ≡ 0 → (read_depth (take n file) ≡ read_depth file) × (read_bank (take n file) ≡ read_bank file))
prefix_reads n file bank_length h bytes = (prefix_decides n file bank_length h bytes, of_accepted)
  where
    of_accepted : read_fault file bank_length ≡ 0 → (read_depth (take n file) ≡ read_depth file) × (read_bank (take n file) ≡ read_bank file)
    of_accepted e =
        let short = accepted-short file bank_length e in
        let same = take_all n file (omega arith) in
        (ap read_depth same, ap read_bank same)
