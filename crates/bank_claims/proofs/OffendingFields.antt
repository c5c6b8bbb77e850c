-- A program that reads a bank file and asks its bank for one offending cross-component filter after the other gets those of exactly the
-- offending fields of the file, in the order in which they stand there (02, card 6). Assumes nothing.
use mathlib.Core.Path.{◌≡◌, refl, sym, ◌∙◌, ap}
use mathlib.Core.Bool.{Bool, true, false, not, ◌&&◌, cond}
use mathlib.Core.List.{List, [], ◌∷◌, ◌++◌}
use Prim.Native.Nat.{ℕ, zero, suc, ◌+◌, ◌-◌, ◌*◌, ◌/◌, ◌%◌, ◌<◌, ◌≤◌}
use native.Mathlib.Numerals.{add-one}
use native.Mathlib.Omega.{arith}
use borrow.Author.Tests.{lt-ltb, le-ltb}
use lib.Dec.{eqb, ltb}
use lib.IntN.{ℤ, pos}
use lib.ListN.{drop}
use Rattle.alf_spec.specs.Lists.{all_below, elem}
use Rattle.alf_spec.specs.Faults.{cross_coeff_valid, cross_filter_valid}
use Rattle.alf_spec.specs.Parameters.{cross_number}
use Rattle.alf_spec.proofs.Tests.{at_all, all_same}
use Rattle.alf_bank.specs.declared.FilterId.{FilterId}
use Rattle.alf_bank.specs.Filters.{shape_of, filter_at, start_of}
use Rattle.alf_bank.specs.Writing.{filter_number, all_zero, filter_field, filter_fields, bank_file}
use Rattle.alf_bank.specs.Reading.{fields, read_depth, read_bank, read_fault}
use Rattle.alf_bank.proofs.BankFiles.{Bytes, accepted_written}
use Rattle.alf_bank.proofs.FieldRows.{row_of, field_row, row_id, row_coeff}
use Rattle.alf_bank.proofs.Fields.{fields_none}
use Rattle.alf_bank.proofs.FileOrder.{Kind, luma, chroma, cross, kind_at}
use Rattle.alf_bank.proofs.Tables.{signed_of_byte}
use Rattle.alf_bank.proofs.ValidBanks.{Valid, accepted-bank}
use Rattle.alf_bank.proofs.WrittenFiles.{field_none, number_none, fields-row}
use Rattle.alf_cross_coeffs.specs.declared.CrossFilter.{CrossFilter}
use Rattle.alf_cross_coeffs.specs.Offenders.{cross_filter_at, valid_at, offender_at}
use Rattle.alf_cross_coeffs.proofs.Searches.{search_stop, search_step, search_end}
use Rattle.bank_claims.specs.OffendingFields.{offending, cross_of, offenders_among, offending_filters, found_in_turn}

-- ---- a filter of a bank

-- whether it is a cross-component filter with a coefficient that H.266 can't send
unfoldable offends : List ℤ → FilterId → Bool
offends bank i = eqb i.tag 4 && not (all_below 7 (λ j. cross_coeff_valid (filter_number bank i j)))

-- the filter where it is one, and those that come later
abbrev named : List ℤ → FilterId → List CrossFilter → List CrossFilter
named bank i later = cond (offends bank i) (cross_of i ∷ later) later

zero_valid : cross_coeff_valid (pos 0) ≡ true
unfolding cross_coeff_valid elem
zero_valid = refl

-- a filter that is all zero, and so has no field, is none
zero_passes : (bank : List ℤ) {i : FilterId} → Kind i → all_zero bank i ≡ true → offends bank i ≡ false
unfolding offends shape_of
zero_passes bank (luma a f p q) e = refl
zero_passes bank (chroma a f p q) e = refl
zero_passes bank (cross a c f p r q) e = ap not (at_all 7 _ (λ j h. rw (number_none bank _ e j h) zero_valid))

-- nor is any of the first 264 in file order: luma and chroma filters
earlier_passes : (bank : List ℤ) (k : ℕ) → k < 264 → offends bank (filter_at k) ≡ false
unfolding offends filter_at
earlier_passes bank k h = by_test (ltb k 200) refl
  where
    by_test : (t : Bool) → ltb k 200 ≡ t → offends bank (filter_at k) ≡ false
    by_test true e = simp e
    by_test false e = simp (e, lt-ltb k 264 h)

-- the cross-component filters follow, in the order of the search
later_filter : (n : ℕ) → filter_at (264 + n) ≡ record { tag = 4; aps = n / 8; component = n % 8 / 4; filter = n % 4 }
unfolding filter_at
later_filter n =
    let e : 264 + n - 264 ≡ n = omega arith in
    rw (le-ltb (264 + n) 200 (omega arith), le-ltb (264 + n) 264 (omega arith), e)

coeff_place : (a c f j : ℕ) → 752 * a + (696 + (28 * c + 7 * f)) + j ≡ 752 * a + cross_number c f j
coeff_place a c f j = omega arith

later_test : (bank : List ℤ) (n : ℕ) → offends bank (filter_at (264 + n)) ≡ not (valid_at bank n)
unfolding offends filter_number start_of valid_at cross_filter_valid
later_test bank n = rw (later_filter n) (ap not (all_same 7 (λ j h. rw (coeff_place (n / 8) (n % 8 / 4) (n % 4) j))))

-- ---- its field

-- of the fields of n filters from place k of file order on
abbrev from_place : List ℤ → ℕ → ℕ → List CrossFilter
from_place bank n k = offenders_among (fields (filter_fields n k bank) 0)

no_place : (bank : List ℤ) (k : ℕ) → from_place bank zero k ≡ []
unfolding filter_fields offenders_among
no_place bank k = rw fields_none

module _ {limit : ℕ} {bank : List ℤ} (ok : Valid limit bank) where
  -- the numbers that are written are those that are read
  row_offends : (rest : List ℕ) {i : FilterId} → Kind i → offending (field_row bank i rest) ≡ offends bank i
  unfolding offending offends row_of shape_of
  row_offends rest (luma a f p q) = refl
  row_offends rest (chroma a f p q) = refl
  row_offends rest (cross a c f p r q) =
      ap not (all_same 7 (λ j h.
      ap cross_coeff_valid (row_coeff bank _ rest j h ∙ signed_of_byte _ (ok.coeffs _ (cross a c f p r q) j h))))

  next_field : (rest : List ℕ) {i : FilterId} → Kind i
      → offenders_among (fields (filter_field bank i ++ rest) 0) ≡ named bank i (offenders_among (fields rest 0))
  unfolding offenders_among
  next_field rest {i} kind = by_test (all_zero bank i) refl
    where
      by_test : (t : Bool) → all_zero bank i ≡ t
          → offenders_among (fields (filter_field bank i ++ rest) 0) ≡ named bank i (offenders_among (fields rest 0))
      by_test true e = rw (field_none bank i e, zero_passes bank kind e)
      by_test false e = rw (fields-row ok rest kind e, row_offends rest kind, row_id bank rest kind)

  next_place : (n k : ℕ) → k < 328 → from_place bank (suc n) k ≡ named bank (filter_at k) (from_place bank n (suc k))
  unfolding filter_fields
  next_place n k h = next_field (filter_fields n (suc k) bank) (kind_at k h)

  -- ---- all fields

  -- n of the first 264 filters are left, with the 64 that follow
  skips : (n m k : ℕ) → n + k ≡ 264 → m ≡ 64 + n → from_place bank m k ≡ from_place bank 64 264
  skips zero m k e q =
      let a : k ≡ 264 = omega arith in
      let b : m ≡ 64 = omega arith in
      rw (a, b)
  skips (suc n) m k e q =
      let b : m ≡ suc (64 + n) = omega arith in
      rw (b, next_place (64 + n) k (omega arith), earlier_passes bank k (omega arith)) (skips n (64 + n) (suc k) (omega arith) refl)

  later_place : (n k : ℕ) → k < 64 → from_place bank (suc n) (264 + k)
      ≡ cond (not (valid_at bank k)) (cross_filter_at k ∷ from_place bank n (264 + suc k)) (from_place bank n (264 + suc k))
  later_place n k h =
      let s : suc (264 + k) ≡ 264 + suc k = omega arith in
      next_place n (264 + k) (omega arith) ∙ rw (later_test bank k, later_filter k, s)

  -- n of the 64 are left, and the program asks m times at most
  in_turn : (n m k : ℕ) → n + k ≡ 64 → n ≤ m → found_in_turn m bank k ≡ from_place bank n (264 + k)
  unfolding found_in_turn offender_at
  in_turn zero zero k e l = sym (no_place bank (264 + k))
  in_turn zero (suc m) k e l = rw (← search_end bank k (omega arith), le-ltb k 64 (omega arith)) (sym (no_place bank (264 + k)))
  in_turn (suc n) zero k e l = absurd (omega arith)
  in_turn (suc n) (suc m) k e l =
      by_test (valid_at bank k) refl (omega arith)
      (in_turn n (suc m) (suc k) (omega arith) (omega arith)) (in_turn n m (suc k) (omega arith) (omega arith))
    where
      -- the search goes on, or stops at place k
      by_test : (t : Bool) → valid_at bank k ≡ t → k < 64
          → found_in_turn (suc m) bank (suc k) ≡ from_place bank n (264 + suc k)
          → found_in_turn m bank (suc k) ≡ from_place bank n (264 + suc k)
          → found_in_turn (suc m) bank k ≡ from_place bank (suc n) (264 + k)
      by_test true t h on behind = rw (later_place n k h, t, search_step bank h (sym t) refl, add-one) on
      by_test false t h on behind = rw (later_place n k h, t, ← search_stop bank h (sym t) refl, lt-ltb k 64 h, behind)

-- ---- the claim: 64 times are enough, and who asks more often gets no more

pub found_in_order : (file : List ℕ) → Bytes file → read_fault file 6016 ≡ 0 → (n : ℕ) → 64 ≤ n
    → found_in_turn n (read_bank file) 0 ≡ offending_filters file
unfolding offending_filters bank_file
found_in_order file bytes e n l =
    let written = accepted_written file bytes e in
    let ok = (accepted-bank (read_depth file) (read_bank file) 10508 written.0).numbers in
    in_turn ok 64 n 0 refl l
    ∙ sym (skips ok 264 328 0 refl refl)
    ∙ ap (λ (f : List ℕ). offenders_among (fields (drop 4 f) 0)) written.1
