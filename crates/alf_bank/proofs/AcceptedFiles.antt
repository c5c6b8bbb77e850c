-- Every file that the reader accepts is what the writer makes of its depth and bank. Assumes nothing.
use mathlib.Core.Path.{◌≡◌, refl, sym, ◌∙◌, ap}
use mathlib.Core.Bool.{true, false}
use mathlib.Core.List.{List, [], ◌∷◌, ◌++◌}
use Prim.Native.Nat.{ℕ, zero, suc, ◌+◌, ◌-◌, ◌<◌, ◌≤◌, ◌^◌}
use native.Mathlib.Omega.{arith}
use native.Mathlib.Decide.{ℕ_discrete}
use borrow.Author.Tests.{eqb-true}
use lib.Dec.{eqb}
use lib.IntN.{ℤ, pos, nat_abs}
use lib.ListN.{length, get_or, drop, replicate, length-replicate, length-drop, get_or-replicate}
use lib.Seq.{get_or-drop}
use Rattle.alf_spec.specs.Faults.{unless, coeff_valid, depth_valid, bank_numbers_valid}
use Rattle.alf_spec.proofs.Tests.{at_all}
use Rattle.alf_lists.specs.Overwrite.{overwrite}
use Rattle.alf_lists.proofs.Overwritten.{overwrite-length, overwrite_in, overwrite_outside}
use Rattle.alf_bank.specs.declared.FilterId.{FilterId}
use Rattle.alf_bank.specs.Filters.{table, shape_of, count_of, order_of, filter_at, start_of}
use Rattle.alf_bank.specs.Writing.{filter_number, zero_at, all_zero, filter_field, filter_fields, bank_file}
use Rattle.alf_bank.specs.Reading.{tag_of, length_of, id_of, coeff_at, clip_at, field_numbers, is_depth, field_fault, fields, first_of}
use Rattle.alf_bank.specs.Reading.{filters_fault, fields_fault, read_depth, filled, read_bank, read_fault}
use Rattle.alf_bank.proofs.DecodedFields.{ByteReads, good_kind, coeff_in, clip-small, decoded_field}
use Rattle.alf_bank.proofs.FileOrder.{Kind, kind_at, order-at, order_small, filter_of_order, same_filter, start_fits, owner_of}
use Rattle.alf_bank.proofs.FileOrder.{owner_in}
use Rattle.alf_bank.proofs.Tables.{table_split}
use Rattle.alf_bank.proofs.ValidBanks.{ClipIn, Valid, of_valid}
use Rattle.alf_bank.proofs.WrittenFiles.{numbers-length, numbers_coeff, numbers-clip, field_none}
use Rattle.alf_bank.proofs.FieldFaults.{Good, good_of, GoodDepth, good_depth, depth_small}
use Rattle.alf_bank.proofs.Fields.{fields_none, fields_step}

-- ---- filters that are all zero

-- the numbers of the filters from place k of file order on, and before place e, are zero
abbrev ZeroBetween : ℕ → ℕ → List ℤ → Type 0
ZeroBetween k e b = (x : ℕ) → x < 6016 → k ≤ owner_of x → owner_of x < e → get_or b x (pos 0) ≡ pos 0

zero_filter : (k e : ℕ) (b : List ℤ) → k < e → e ≤ 328 → ZeroBetween k e b → all_zero b (filter_at k) ≡ true
unfolding all_zero zero_at filter_number
zero_filter k e b l h z =
    at_all (count_of (shape_of (filter_at k).tag)) (zero_at b (filter_at k)) (λ j q.
    let kind = kind_at k (omega arith) in
    let f = start_fits kind in
    let o = owner_in kind (start_of (filter_at k) + j) (omega arith) (omega arith) ∙ order-at k (omega arith) in
    ap (λ (n : ℤ). eqb (nat_abs n) 0) (z (start_of (filter_at k) + j) (omega arith) (omega arith) (omega arith)))

-- they are left out
skip_zeros : (m k e : ℕ) (b : List ℤ) → k ≤ e → e ≤ 328 → m + k ≡ 328 → ZeroBetween k e b
    → filter_fields m k b ≡ filter_fields (328 - e) e b
unfolding filter_fields
skip_zeros zero k e b l h q z = let n : 328 - e ≡ 0 = omega arith in rw n
skip_zeros (suc m) k e b l h q z = by_test (ℕ_discrete k e) (skip_zeros m (suc k) e b)
  where
    by_test : Dec (k ≡ e)
        → (suc k ≤ e → e ≤ 328 → m + suc k ≡ 328 → ZeroBetween (suc k) e b → filter_fields m (suc k) b ≡ filter_fields (328 - e) e b)
        → filter_field b (filter_at k) ++ filter_fields m (suc k) b ≡ filter_fields (328 - e) e b
    by_test (yes p) again = let n : 328 - e ≡ suc m = omega arith in rw (n, ← p)
    by_test (no p) again =
        rw (field_none b (filter_at k) (zero_filter k e b (omega arith) h z))
        (again (omega arith) h (omega arith) (λ x i j t. z x i (omega arith) t))

fields_end : (b : List ℤ) → filter_fields (328 - 328) 328 b ≡ []
unfolding filter_fields
fields_end b = refl

-- ---- one field

-- a bank with the numbers of the filter that a field names
abbrev with_field : List ℕ → List ℤ → List ℤ
with_field f b = overwrite (start_of (id_of f)) (field_numbers f) b

module _ {limit from : ℕ} {f : List ℕ} (g : Good limit from f) (small : ByteReads f) (b : List ℤ) (size : length b ≡ 6016) where
  kind : Kind (id_of f)
  kind = good_kind g small

  many : length (field_numbers f) ≡ count_of (shape_of (id_of f).tag)
  unfolding id_of
  many = numbers-length f

  fits : start_of (id_of f) + length (field_numbers f) ≤ length b
  fits = let m = many in let q = start_fits kind in omega arith

  next-size : length (with_field f b) ≡ 6016
  next-size = overwrite-length (start_of (id_of f)) (field_numbers f) b fits ∙ size

  -- the other filters' numbers stay
  next_other : (x : ℕ) → (owner_of x ≡ order_of (id_of f) → ⊥) → get_or (with_field f b) x (pos 0) ≡ get_or b x (pos 0)
  next_other x ne =
      let m = many in
      overwrite_outside (start_of (id_of f)) (field_numbers f) b fits (pos 0) x (λ p q. ne (owner_in kind x p (omega arith)))

  next_zero : ZeroBetween from 328 b → ZeroBetween (suc (order_of (id_of f))) 328 (with_field f b)
  next_zero z x h l t = let a = g.after in next_other x (λ e. omega arith) ∙ z x h (omega arith) t

  next_coeff : (j : ℕ) → j < (shape_of (tag_of f)).coeffs → filter_number (with_field f b) (id_of f) j ≡ coeff_at f j
  unfolding filter_number
  next_coeff j h =
      let m = numbers-length f in
      overwrite_in (start_of (id_of f)) (field_numbers f) b fits (pos 0) j (omega arith) ∙ numbers_coeff f j h

  next-clip : (j : ℕ) → j < (shape_of (tag_of f)).clips
      → filter_number (with_field f b) (id_of f) ((shape_of (tag_of f)).coeffs + j) ≡ pos (clip_at f j)
  unfolding filter_number
  next-clip j h =
      let m = numbers-length f in
      overwrite_in (start_of (id_of f)) (field_numbers f) b fits (pos 0) ((shape_of (tag_of f)).coeffs + j) (omega arith)
      ∙ numbers-clip f j h

  -- a number of another filter
  next-number : (i : FilterId) → Kind i → (order_of i ≡ order_of (id_of f) → ⊥)
      → (j : ℕ) → j < count_of (shape_of i.tag) → filter_number (with_field f b) i j ≡ filter_number b i j
  unfolding filter_number
  next-number i k ne j h = next_other (start_of i + j) (λ e. ne (sym (owner_in k (start_of i + j) (omega arith) (omega arith)) ∙ e))

  clip_ok : (j : ℕ) → j < (shape_of (id_of f).tag).clips
      → ClipIn limit (filter_number (with_field f b) (id_of f) ((shape_of (id_of f).tag).coeffs + j))
  unfolding id_of
  clip_ok j h = rw (next-clip j h) (refl, clip-small g small j h)

  next_valid : Valid limit b → Valid limit (with_field f b)
  next_valid v =
      record {
        size = next-size;
        coeffs = λ i k j h. coeff_by i k j h (ℕ_discrete (order_of i) (order_of (id_of f)));
        clips = λ i k j h. clip_by i k j h (ℕ_discrete (order_of i) (order_of (id_of f)));
      }
    where
      coeff_by : (i : FilterId) → Kind i → (j : ℕ) → j < (shape_of i.tag).coeffs → Dec (order_of i ≡ order_of (id_of f))
          → coeff_valid (filter_number (with_field f b) i j) ≡ true
      coeff_by i k j h (yes e) =
          let q = same_filter k kind e in rw q (coeff_in g small (with_field f b) next_coeff j (rw q at h))
      coeff_by i k j h (no e) = rw (next-number i k e j (omega arith)) (v.coeffs i k j h)

      clip_by : (i : FilterId) → Kind i → (j : ℕ) → j < (shape_of i.tag).clips → Dec (order_of i ≡ order_of (id_of f))
          → ClipIn limit (filter_number (with_field f b) i ((shape_of i.tag).coeffs + j))
      clip_by i k j h (yes e) = let q = same_filter k kind e in rw q (clip_ok j (rw q at h))
      clip_by i k j h (no e) = rw (next-number i k e ((shape_of i.tag).coeffs + j) (omega arith)) (v.clips i k j h)

-- ---- all fields

-- what the bank `out` is that the fields of a row make of the bank b
record Back (limit from : ℕ) (row : List ℕ) (b out : List ℤ) : Type 0 where
  same : (x : ℕ) → x < 6016 → owner_of x < from → get_or out x (pos 0) ≡ get_or b x (pos 0)
  file : filter_fields (328 - from) from out ≡ row
  valid : Valid limit out

pub none_faulty : (a rest : ℕ) → first_of a rest ≡ 0 → (a ≡ 0) × (rest ≡ 0)
none_faulty zero rest e = (refl, e)
none_faulty (suc a) rest e = absurd (omega (arith, e))

-- a field that is followed by fields that make `out` of the bank with its numbers
module _ {limit from : ℕ} {f : List ℕ} (g : Good limit from f) (small : ByteReads f) (b : List ℤ) (size : length b ≡ 6016)
    (z : ZeroBetween from 328 b) {out : List ℤ}
    (r : Back limit (suc (order_of (id_of f))) (drop (3 + length_of f) f) (with_field f b) out) where
  -- its place in file order
  abbrev place : ℕ
  place = order_of (id_of f)

  -- a number of this filter or of one before
  kept-number : (x : ℕ) → x < 6016 → owner_of x ≤ place → get_or out x (pos 0) ≡ get_or (with_field f b) x (pos 0)
  kept-number x h l = r.same x h (omega arith)

  out_number : (j : ℕ) → j < count_of (shape_of (tag_of f)) → filter_number out (id_of f) j ≡ filter_number (with_field f b) (id_of f) j
  unfolding filter_number id_of
  out_number j h =
      let k = kind g small b size in
      let q = start_fits k in
      let o = owner_in k (start_of (id_of f) + j) (omega arith) (omega arith) in
      kept-number (start_of (id_of f) + j) (omega arith) (omega arith)

  joined : filter_field out (id_of f) ++ drop (3 + length_of f) f ≡ f
  joined =
      decoded_field g small out
      (λ j h. out_number j (omega arith) ∙ next_coeff g small b size j h)
      (λ j h. out_number ((shape_of (tag_of f)).coeffs + j) (omega arith) ∙ next-clip g small b size j h)

  earlier : (x : ℕ) → x < 6016 → owner_of x < place → get_or out x (pos 0) ≡ get_or b x (pos 0)
  earlier x h l = kept-number x h (omega arith) ∙ next_other g small b size x (λ e. omega arith)

  this_field : filter_fields (328 - place) place out ≡ f
  unfolding filter_fields
  this_field =
      let k = kind g small b size in
      let q = order_small k in
      let n : 328 - place ≡ suc (328 - suc place) = omega arith in
      rw (n, filter_of_order k, r.file) joined

  back_step : Back limit from f b out
  back_step =
      let a = g.after in
      let q = order_small (kind g small b size) in
      let skipped : ZeroBetween from place out = λ x h l t. earlier x h t ∙ z x h l (omega arith) in
      record {
        same = λ x h l. earlier x h (omega arith);
        file = skip_zeros (328 - from) from place out a (omega arith) (omega arith) skipped ∙ this_field;
        valid = r.valid;
      }

-- of every row of fields of at most n bytes
abbrev Claim : ℕ → ℕ → Type 0
Claim limit n =
    (row : List ℕ) → length row ≤ n → ByteReads row → (from : ℕ) → from ≤ 328 → filters_fault limit from (fields row 0) ≡ 0
    → (b : List ℤ) → length b ≡ 6016 → ZeroBetween from 328 b → Valid limit b → Back limit from row b (filled b (fields row 0))

back_end : (limit from : ℕ) → from ≤ 328 → (b : List ℤ) → ZeroBetween from 328 b → Valid limit b
    → Back limit from [] b (filled b (fields [] 0))
unfolding filled
back_end limit from le b z v =
    rw fields_none
    (record {
      same = λ x i l. refl;
      file = skip_zeros (328 - from) from 328 b le (omega arith) (omega arith) z ∙ fields_end b;
      valid = v;
    })

back_none : (limit : ℕ) → Claim limit 0
back_none limit [] h bytes from le e b size z v = back_end limit from le b z v
back_none limit (x ∷ r) h bytes from le e b size z v = absurd (omega (arith, h))

back_more : (limit n : ℕ) → Claim limit n → Claim limit (suc n)
unfolding filled filters_fault
back_more limit n again [] h bytes from le e b size z v = back_end limit from le b z v
back_more limit n again (x ∷ r) h bytes from le e b size z v =
    let step = fields_step (x ∷ r) (omega arith) in
    let none = none_faulty (field_fault false limit from (x ∷ r)) _ (rw step at e) in
    let g = good_of limit from (x ∷ r) none.0 in
    let reach : ℕ = 3 + length_of (x ∷ r) in
    let l = length-drop reach (x ∷ r) in
    rw step (back_step g bytes b size z
    (again (drop reach (x ∷ r)) (omega arith) (λ k. rw get_or-drop (bytes (reach + k)))
    (suc (order_of (id_of (x ∷ r)))) (order_small (kind g bytes b size)) none.1
    (with_field (x ∷ r) b) (next-size g bytes b size) (next_zero g bytes b size z) (next_valid g bytes b size v)))

back : (limit n : ℕ) → Claim limit n
back limit zero = back_none limit
back limit (suc n) = back_more limit n (back limit n)

-- ---- the file

-- the bank that the fields are written over
abbrev zeros : List ℤ
zeros = replicate 6016 (pos 0)

coeff_zero : coeff_valid (pos 0) ≡ true
unfolding coeff_valid
coeff_zero = refl

zeros_valid : (limit : ℕ) → Valid limit zeros
unfolding filter_number
zeros_valid limit =
    record {
      size = length-replicate 6016 (pos 0);
      coeffs = λ i k j h. let f = start_fits k in rw (get_or-replicate 6016 (start_of i + j) (pos 0) (pos 0) (omega arith)) coeff_zero;
      clips = λ i k j h.
          let f = start_fits k in
          rw (get_or-replicate 6016 (start_of i + ((shape_of i.tag).coeffs + j)) (pos 0) (pos 0) (omega arith)) (refl, omega arith);
    }

no_file : read_fault [] 6016 ≡ 0 → ⊥
unfolding read_fault unless fields_fault
no_file e = omega (arith, rw fields_none at e)

pub read_faults : (file : List ℕ) → read_fault file 6016 ≡ 0
    → (field_fault true 0 0 file ≡ 0) × (filters_fault (2 ^ read_depth file) 0 (fields (drop 4 file) 0) ≡ 0)
unfolding read_fault unless fields_fault read_depth
read_faults [] e = absurd (no_file e)
read_faults (x ∷ r) e =
    let none = none_faulty (field_fault true 0 0 (x ∷ r)) _ (rw (fields_step (x ∷ r) (omega arith)) at e) in
    (none.0, rw (depth_small (x ∷ r) 0 0 none.0).3 at none.1)

module _ (file : List ℕ) (bytes : ByteReads file) (accepted : read_fault file 6016 ≡ 0) where
  first : GoodDepth file
  first = good_depth 0 0 file (read_faults file accepted).0

  rest : Back (2 ^ read_depth file) 0 (drop 4 file) zeros (read_bank file)
  unfolding read_bank
  rest =
      back (2 ^ read_depth file) (length (drop 4 file)) (drop 4 file) (omega arith) (λ k. rw get_or-drop (bytes (4 + k)))
      0 (omega arith) (read_faults file accepted).1
      zeros (length-replicate 6016 (pos 0)) (λ x h l t. get_or-replicate 6016 x (pos 0) (pos 0) h) (zeros_valid (2 ^ read_depth file))

  pub accepted-depth : depth_valid (read_depth file) ≡ true
  unfolding read_depth
  accepted-depth = first.depth

  pub accepted-length : length (read_bank file) ≡ 6016
  accepted-length = rest.valid.size

  pub accepted-numbers : bank_numbers_valid (read_depth file) (read_bank file) ≡ true
  accepted-numbers = of_valid (read_depth file) (read_bank file) accepted-length rest.valid

  pub accepted_file : bank_file (read_depth file) (read_bank file) ≡ file
  unfolding bank_file read_depth table is_depth length_of
  accepted_file =
      let start = depth_small file 0 0 (read_faults file accepted).0 in
      let b = bytes 2 in
      let zero_is : get_or file 0 0 ≡ 1 = eqb-true (get_or file 0 0) 1 first.first in
      let one_is : get_or file 1 0 ≡ 0 = omega arith in
      let two_is : get_or file 2 0 ≡ 1 = omega arith in
      sym (table_split 4 0 file start.0 ∙ rw (zero_is, one_is, two_is, rest.file))
