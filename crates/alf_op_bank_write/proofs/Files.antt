-- The fields that the writer writes one after the other, and the room that they take. Assumes nothing.
use mathlib.Core.Path.{◌≡◌, refl, sym, ◌∙◌, ap}
use mathlib.Core.Bool.{Bool, true, false}
use mathlib.Core.List.{List, [], ◌∷◌, ◌++◌, append_assoc, append-nil}
use Prim.Native.Nat.{ℕ, zero, suc, ◌+◌, ◌-◌, ◌*◌, ◌<◌, ◌≤◌, ◌^◌, min}
use native.Mathlib.Omega.{arith}
use native.Mathlib.Nat.{zero-add, add-zero}
use native.Mathlib.Numerals.{add-one}
use borrow.Author.Tests.{ltb-true, ltb-false}
use lib.Dec.{ltb}
use lib.IntN.{ℤ}
use lib.ListN.{length, length-append}
use lib.Pow.{pow_mono}
use Rattle.alf_spec.proofs.Tests.{within_bounds}
use Rattle.alf_lists.specs.Overwrite.{overwrite}
use Rattle.alf_lists.proofs.Overwritten.{overwrite-length, overwrite_none, overwrite_join}
use Rattle.alf_bank.specs.declared.FilterId.{FilterId}
use Rattle.alf_bank.specs.Filters.{shape_of, size_of, filter_at}
use Rattle.alf_bank.specs.Writing.{all_zero, filter_field, filter_fields, bank_file, write_fault}
use Rattle.alf_bank.proofs.FileOrder.{kind_at, start_fits}
use Rattle.alf_bank.proofs.ValidBanks.{AcceptedBank, accepted-bank}
use Rattle.alf_bank.proofs.WrittenFiles.{field_none}
use Rattle.alf_op_bank_write.specs.FieldBytes.{field_bytes, Writable}
use Rattle.alf_op_bank_write.proofs.FieldBytes.{bytes_length}

-- ---- one filter

field_bytes_lem : (bank : List ℤ) (i : FilterId) → all_zero bank i ≡ false → filter_field bank i ≡ field_bytes bank i
unfolding filter_field field_bytes
field_bytes_lem bank i e = rw e

field_most : (bank : List ℤ) (i : FilterId) → length (filter_field bank i) ≤ 3 + size_of (shape_of i.tag)
field_most bank i = by_test (all_zero bank i) refl
  where
    by_test : (t : Bool) → all_zero bank i ≡ t → length (filter_field bank i) ≤ 3 + size_of (shape_of i.tag)
    by_test true e = rw (field_none bank i e) (omega arith)
    by_test false e = rw (field_bytes_lem bank i e) (omega (arith, bytes_length bank i))

-- the code has the filter i and the answer z whether it is all zero
module _ (bank : List ℤ) (k at : ℕ) (old : List ℕ) {i : FilterId} (ei : i ≡ filter_at k) {z : Bool} (ez : z ≡ all_zero bank i) where
  empty : z ≡ true → filter_field bank (filter_at k) ≡ []
  empty q = field_none bank (filter_at k) (rw ei at (sym ez ∙ q))

  full : z ≡ false → filter_field bank (filter_at k) ≡ field_bytes bank (filter_at k)
  full q = field_bytes_lem bank (filter_at k) (rw ei at (sym ez ∙ q))

  pub skipped_at : z ≡ true → at ≡ at + length (filter_field bank (filter_at k))
  skipped_at q = rw (empty q) (sym (add-zero at))

  pub skipped_file : z ≡ true → old ≡ overwrite at (filter_field bank (filter_at k)) old
  skipped_file q = rw (empty q) (overwrite_none at old)

  pub written_at : z ≡ false → {size : ℕ} → size ≡ size_of (shape_of i.tag)
      → at + (3 + size) ≡ at + length (filter_field bank (filter_at k))
  written_at q e = rw (full q, e, ei) (omega (arith, bytes_length bank (filter_at k)))

  pub written_file : z ≡ false → {new : List ℕ} → new ≡ overwrite at (field_bytes bank i) old
      → new ≡ overwrite at (filter_field bank (filter_at k)) old
  written_file q w = w ∙ rw (full q, ei)

-- ---- all filters

module _ (bank : List ℤ) where
  fields_more : (n k : ℕ) → filter_fields (suc n) k bank ≡ filter_fields n k bank ++ filter_field bank (filter_at (k + n))
  unfolding filter_fields
  fields_more zero k = rw (add-zero, append-nil)
  fields_more (suc n) k =
      let e : suc k + n ≡ k + suc n = omega arith in
      rw (fields_more n (suc k), e) (sym (append_assoc (filter_field bank (filter_at k)) _ _))

  fields-next : (k : ℕ) → filter_fields (k + 1) 0 bank ≡ filter_fields k 0 bank ++ filter_field bank (filter_at k)
  fields-next k = rw add-one (fields_more k 0 ∙ rw zero-add)

-- how many bytes the first k fields take at most
unfoldable room_of : ℕ → ℕ
room_of k = 41 * min k 200 + (23 * (min k 264 - 200) + 13 * (k - 264))

room-luma : (k : ℕ) → k ≤ 200 → room_of k ≡ 41 * k
unfolding room_of
room-luma k h = omega arith

room-chroma : (k : ℕ) → 200 ≤ k → k ≤ 264 → room_of k + 4600 ≡ 8200 + 23 * k
unfolding room_of
room-chroma k h l = omega arith

room_cross : (k : ℕ) → 264 ≤ k → room_of k + 3432 ≡ 9672 + 13 * k
unfolding room_of
room_cross k h = omega arith

-- the next field takes as many more, and all take 10,504
room_more : (k : ℕ) → k < 328 → (room_of k + (3 + size_of (shape_of (filter_at k).tag)) ≡ room_of (k + 1)) × (room_of (k + 1) ≤ 10504)
unfolding filter_at shape_of
room_more k h = by_test (ltb k 200) (ltb k 264) refl refl
  where
    by_test : (s t : Bool) → ltb k 200 ≡ s → ltb k 264 ≡ t
        → (room_of k + (3 + size_of (shape_of (filter_at k).tag)) ≡ room_of (k + 1)) × (room_of (k + 1) ≤ 10504)
    by_test true t p q =
        let l = ltb-true k 200 p in
        let a = room-luma k (omega arith) in let b = room-luma (k + 1) (omega arith) in
        simp p (omega arith, omega arith)
    by_test false true p q =
        let l = ltb-false k 200 p in let m = ltb-true k 264 q in
        let a = room-chroma k (omega arith) (omega arith) in let b = room-chroma (k + 1) (omega arith) (omega arith) in
        simp (p, q) (omega arith, omega arith)
    by_test false false p q =
        let m = ltb-false k 264 q in
        let a = room_cross k (omega arith) in let b = room_cross (k + 1) (omega arith) in
        simp (p, q) (omega arith, omega arith)

no_fields : (bank : List ℤ) → length (filter_fields 0 0 bank) ≤ room_of 0
unfolding filter_fields
no_fields bank = omega arith

fields-room : (bank : List ℤ) (k : ℕ) → k ≤ 328 → length (filter_fields k 0 bank) ≤ room_of k
fields-room bank zero h = no_fields bank
fields-room bank (suc k) h =
    let r = (room_more k (omega arith)).0 in
    let m = field_most bank (filter_at k) in
    let n = length-append (filter_fields k 0 bank) (filter_field bank (filter_at k)) in
    let g = fields-room bank k (omega arith) in
    let e : length (filter_fields (k + 1) 0 bank) ≤ room_of (k + 1) = rw (fields-next bank k) (omega arith) in
    rw add-one at e

all_room : (bank : List ℤ) → length (filter_fields 328 0 bank) ≤ 10504
all_room bank = let f = fields-room bank 328 (omega arith) in let r = room_cross 328 (omega arith) in omega arith

-- ---- the loop over the filters: k are written, up to place `at`

pub record Progress (bank : List ℤ) (old : List ℕ) (k at : ℕ) (file : List ℕ) : Type 0 where
  pub within : k ≤ 328
  pub place : at ≡ 4 + length (filter_fields k 0 bank)
  pub len : length file ≡ length old
  pub is : file ≡ overwrite 4 (filter_fields k 0 bank) old

module _ {bank : List ℤ} {old : List ℕ} where
  pub wrote_none : Progress bank old 0 4 old
  unfolding filter_fields
  wrote_none = record { within = omega arith; place = refl; len = refl; is = overwrite_none 4 old }

  module _ (enough : 10508 ≤ length old) {k at : ℕ} {file : List ℕ} (w : Progress bank old k at file) (h : k < 328) where
    pub wrote_room : at + (3 + size_of (shape_of (filter_at k).tag)) ≤ length file
    wrote_room =
        let r = room_more k h in let f = fields-room bank k (omega arith) in
        let p = w.place in let l = w.len in omega arith

    pub wrote_more : {next : ℕ} {new : List ℕ} → next ≡ at + length (filter_field bank (filter_at k))
        → new ≡ overwrite at (filter_field bank (filter_at k)) file → Progress bank old (k + 1) next new
    wrote_more {next} {new} en ew =
        let written : List ℕ = filter_fields k 0 bank in
        let field : List ℕ = filter_field bank (filter_at k) in
        let l = length-append written field in
        let r = room_more k h in let f = fields-room bank k (omega arith) in let m = field_most bank (filter_at k) in
        let p = w.place in
        let joined : new ≡ overwrite 4 (written ++ field) old
        = ew ∙ rw (p, w.is) (overwrite_join 4 written field old (omega arith)) in
        record {
          within = omega arith;
          place = rw fields-next (omega arith);
          len = ap length joined ∙ overwrite-length 4 (written ++ field) old (omega arith);
          is = rw fields-next joined;
        }

-- ---- the whole file

-- a bank that is accepted at a depth, for a buffer of so many bytes
module _ (depth : ℕ) (bank : List ℤ) (room : ℕ) (ok : write_fault depth bank room ≡ 0) where
  accepted : AcceptedBank depth bank room
  accepted = accepted-bank depth bank room ok

  pub write_room : 10508 ≤ room
  write_room = accepted.enough

  pub write_ready : (k : ℕ) → k < 328 → Writable bank (filter_at k)
  write_ready k h =
      let v = accepted.numbers in
      let kind = kind_at k h in
      let f = start_fits kind in
      let limit : 2 ^ depth ≤ 2 ^ 12 = pow_mono (within_bounds 8 12 depth accepted.deep).1 in
      record {
        fits = omega (arith, v.size);
        coeffs = v.coeffs (filter_at k) kind;
        clips = λ j l. (v.clips (filter_at k) kind j l).0;
        small = λ j l. omega (arith, (v.clips (filter_at k) kind j l).1);
      }

  pub write_length : {n : ℕ} → n ≡ 4 + length (filter_fields 328 0 bank) → n ≡ length (bank_file depth bank)
  unfolding bank_file
  write_length q = omega arith

  pub write_fits : {n : ℕ} → n ≡ 4 + length (filter_fields 328 0 bank) → n < 2 ^ 32
  write_fits q = let r = all_room bank in omega arith

  -- `mid` is what is left after the depth's field
  module _ (old : List ℕ) (l : room ≡ length old) {mid : List ℕ} (head : mid ≡ overwrite 0 (1 ∷ 0 ∷ 1 ∷ depth ∷ []) old) where
    pub mid_long : 10508 ≤ length mid
    mid_long = let r = write_room in rw head (omega (arith, overwrite-length 0 (1 ∷ 0 ∷ 1 ∷ depth ∷ []) old (omega arith)))

    pub write_file : {new : List ℕ} → new ≡ overwrite 4 (filter_fields 328 0 bank) mid → new ≡ overwrite 0 (bank_file depth bank) old
    unfolding bank_file
    write_file q =
        let r = write_room in let f = all_room bank in
        q ∙ rw head (overwrite_join 0 (1 ∷ 0 ∷ 1 ∷ depth ∷ []) (filter_fields 328 0 bank) old (omega arith))
