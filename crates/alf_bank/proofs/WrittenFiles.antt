-- Every file that the writer can make is accepted, and gives back its depth and bank. Assumes nothing.
use mathlib.Core.Path.{◌≡◌, refl, sym, ◌∙◌, ap}
use mathlib.Core.Bool.{Bool, true, false, cond}
use mathlib.Core.List.{List, [], ◌∷◌, ◌++◌}
use Prim.Native.Nat.{ℕ, zero, suc, ◌+◌, ◌-◌, ◌<◌, ◌≤◌, ◌^◌}
use native.Mathlib.Omega.{arith}
use native.Mathlib.Decide.{ℕ_discrete}
use borrow.Author.Tests.{lt-ltb, le-ltb, ltb-true, ltb-false, le-leb}
use lib.Dec.{ltb}
use lib.IntN.{ℤ, pos, negsuc, nat_abs}
use lib.ListN.{length, get_or, replicate, length-replicate, get_or-replicate, length-append, get_or-append}
use lib.Seq.{get_or-append-add, ext_get_or}
use Rattle.alf_spec.specs.Faults.{unless, depth_valid}
use Rattle.alf_spec.proofs.Tests.{all_at}
use Rattle.alf_lists.specs.Overwrite.{overwrite}
use Rattle.alf_lists.proofs.Overwritten.{overwrite-length, overwrite_in, overwrite_outside}
use Rattle.alf_bank.specs.declared.FilterId.{FilterId}
use Rattle.alf_bank.specs.Filters.{table, shape_of, count_of, order_of, filter_at, start_of}
use Rattle.alf_bank.specs.Writing.{filter_number, zero_at, all_zero, filter_field, filter_fields, bank_file}
use Rattle.alf_bank.specs.Reading.{tag_of, length_of, id_of, coeff_at, clip_at, field_numbers, whole, listed, is_depth, in_place}
use Rattle.alf_bank.specs.Reading.{field_fault, fields, filters_fault, fields_fault, read_depth, filled, read_bank, read_fault}
use Rattle.alf_bank.proofs.FileOrder.{Kind, kind_at, order-at, Part, coeff, clip, part_of, start_fits, owner_of, owner_in, owner_out}
use Rattle.alf_bank.proofs.FileOrder.{owner_small}
use Rattle.alf_bank.proofs.FieldRows.{row_of, zero_at_lem, field_row, field_row_lem, row_tag, kind_valid, row_id, row_filter, row_listed}
use Rattle.alf_bank.proofs.FieldRows.{row_reach, row-whole, row_next, row_coeff, row-clip, row-clips, row_zero}
use Rattle.alf_bank.proofs.Tables.{table-length, table_at, signed_of_byte}
use Rattle.alf_bank.proofs.ValidBanks.{Valid}
use Rattle.alf_bank.proofs.FieldFaults.{first_good, good}
use Rattle.alf_bank.proofs.Fields.{fields_none, fields_step}

-- ---- the numbers of a field

module _ (f : List ℕ) where
  -- its coefficients, and its clips
  abbrev coeffs : List ℤ
  coeffs = table (shape_of (tag_of f)).coeffs (coeff_at f)

  abbrev clips : List ℤ
  clips = table (shape_of (tag_of f)).clips (λ k. pos (clip_at f k))

  coeffs-length : length coeffs ≡ (shape_of (tag_of f)).coeffs
  coeffs-length = table-length (shape_of (tag_of f)).coeffs (coeff_at f)

  pub numbers-length : length (field_numbers f) ≡ count_of (shape_of (tag_of f))
  unfolding field_numbers
  numbers-length = simp (length-append, table-length)

  pub numbers_coeff : (j : ℕ) → j < (shape_of (tag_of f)).coeffs → get_or (field_numbers f) j (pos 0) ≡ coeff_at f j
  unfolding field_numbers
  numbers_coeff j h =
      get_or-append coeffs clips (pos 0) j (rw coeffs-length h) ∙ table_at (shape_of (tag_of f)).coeffs (coeff_at f) (pos 0) j h

  pub numbers-clip : (j : ℕ) → j < (shape_of (tag_of f)).clips
      → get_or (field_numbers f) ((shape_of (tag_of f)).coeffs + j) (pos 0) ≡ pos (clip_at f j)
  unfolding field_numbers
  numbers-clip j h =
      rw coeffs-length at (get_or-append-add coeffs clips j (pos 0))
      ∙ table_at (shape_of (tag_of f)).clips (λ k. pos (clip_at f k)) (pos 0) j h

-- a filter that is all zero is left out
pub field_none : (bank : List ℤ) (i : FilterId) → all_zero bank i ≡ true → filter_field bank i ≡ []
unfolding filter_field
field_none bank i e = rw e

pub no_magnitude : (z : ℤ) → nat_abs z ≡ 0 → z ≡ pos 0
no_magnitude (pos n) e = ap pos e
no_magnitude (negsuc n) e = absurd (omega (arith, e))

pub number_none : (bank : List ℤ) (i : FilterId) → all_zero bank i ≡ true
    → (j : ℕ) → j < count_of (shape_of i.tag) → filter_number bank i j ≡ pos 0
unfolding all_zero
number_none bank i e j h =
    no_magnitude (filter_number bank i j) (zero_at_lem bank i j (all_at (count_of (shape_of i.tag)) (zero_at bank i) e j h))

-- ---- one field

module _ {limit : ℕ} {bank : List ℤ} (ok : Valid limit bank) where
  module _ (rest : List ℕ) {i : FilterId} (k : Kind i) where
    row_number : {j : ℕ} → Part (shape_of i.tag) j → get_or (field_numbers (field_row bank i rest)) j (pos 0) ≡ filter_number bank i j
    unfolding row_of
    row_number (coeff j h) =
        numbers_coeff (field_row bank i rest) j h ∙ row_coeff bank i rest j h
        ∙ signed_of_byte (filter_number bank i j) (ok.coeffs i k j h)
    row_number (clip j h) = numbers-clip (field_row bank i rest) j h ∙ ap pos (row-clip bank i rest j h) ∙ (ok.clips i k j h).0

    module _ (used : all_zero bank i ≡ false) where
      row_good : (from : ℕ) → from ≤ order_of i → field_fault false limit from (field_row bank i rest) ≡ 0
      unfolding in_place
      row_good from h =
          let filter = row_filter bank rest k in
          let id = row_id bank rest k in
          let zero_is = row_zero bank i rest (ok.coeffs i k) in
          let clips = row-clips bank i rest limit (λ j l. (ok.clips i k j l).1) in
          sym (good (field_row bank i rest) limit from (row-whole bank i rest) (row_listed bank rest k) filter clips
          (rw id (kind_valid k)) (rw (filter, id, le-leb from (order_of i) h, zero_is, used)))

      pub fields-row : fields (filter_field bank i ++ rest) 0 ≡ field_row bank i rest ∷ fields rest 0
      fields-row =
          let l = row_reach bank i rest in
          rw (field_row_lem bank i rest used) (fields_step (field_row bank i rest) (omega arith)
          ∙ ap (λ (r : List ℕ). field_row bank i rest ∷ fields r 0) (row_next bank i rest))

  -- ---- all fields are accepted

  accepts : (n k : ℕ) → n + k ≡ 328 → (from : ℕ) → from ≤ k → filters_fault limit from (fields (filter_fields n k bank) 0) ≡ 0
  unfolding filter_fields filters_fault
  accepts zero k e from h = rw fields_none
  accepts (suc n) k e from h =
      by_test (all_zero bank (filter_at k)) refl (accepts n (suc k) (omega arith)) (kind_at k (omega arith)) (order-at k (omega arith))
    where
      by_test : (t : Bool) → all_zero bank (filter_at k) ≡ t
          → ((m : ℕ) → m ≤ suc k → filters_fault limit m (fields (filter_fields n (suc k) bank) 0) ≡ 0)
          → Kind (filter_at k) → order_of (filter_at k) ≡ k
          → filters_fault limit from (fields (filter_field bank (filter_at k) ++ filter_fields n (suc k) bank) 0) ≡ 0
      by_test true p again kind o = rw (field_none bank (filter_at k) p) (again from (omega arith))
      by_test false p again kind o =
          let rest : List ℕ = filter_fields n (suc k) bank in
          rw (fields-row rest kind p, row_good rest kind p from (omega arith), row_id bank rest kind, o) (again (suc k) (omega arith))

  -- ---- and fill the bank

  -- the numbers of the first k filters are the bank's, and the others are zero
  record Mixed (k : ℕ) (b : List ℤ) : Type 0 where
    size : length b ≡ 6016
    number : (x : ℕ) → x < 6016 → get_or b x (pos 0) ≡ cond (ltb (owner_of x) k) (get_or bank x (pos 0)) (pos 0)

  mixed_none : Mixed 0 (replicate 6016 (pos 0))
  mixed_none =
      record {
        size = length-replicate 6016 (pos 0);
        number = λ x h. get_or-replicate 6016 x (pos 0) (pos 0) h ∙ sym (rw (le-ltb (owner_of x) 0 (omega arith)));
      }

  mixed_all : {b : List ℤ} → Mixed 328 b → b ≡ bank
  mixed_all {b} m =
      ext_get_or (pos 0) b bank (m.size ∙ sym ok.size)
      (λ x h. let l : x < 6016 = omega (arith, m.size) in m.number x l ∙ rw (lt-ltb (owner_of x) 328 (owner_small x l)))

  module _ {k : ℕ} (small : k < 328) {b : List ℤ} (m : Mixed k b) where
    -- filter k
    abbrev i : FilterId
    i = filter_at k

    kind : Kind i
    kind = kind_at k small

    -- its numbers belong to it
    owner : (j : ℕ) → j < count_of (shape_of i.tag) → owner_of (start_of i + j) ≡ k
    owner j h = owner_in kind (start_of i + j) (omega arith) (omega arith) ∙ order-at k small

    -- where its numbers are those of the bank, and the rest stays
    mixed_more : {c : List ℤ} → length c ≡ 6016
        → ((j : ℕ) → j < count_of (shape_of i.tag) → get_or c (start_of i + j) (pos 0) ≡ filter_number bank i j)
        → ((x : ℕ) → (owner_of x ≡ k → ⊥) → get_or c x (pos 0) ≡ get_or b x (pos 0)) → Mixed (suc k) c
    unfolding filter_number
    mixed_more {c} size inside outside = record { size = size; number = λ x h. by_owner x h (ℕ_discrete (owner_of x) k) }
      where
        by_owner : (x : ℕ) → x < 6016 → Dec (owner_of x ≡ k)
            → get_or c x (pos 0) ≡ cond (ltb (owner_of x) (suc k)) (get_or bank x (pos 0)) (pos 0)
        by_owner x h (yes e) =
            let o = owner_out x h kind (e ∙ sym (order-at k small)) in
            let n : start_of i + (x - start_of i) ≡ x = omega arith in
            rw (lt-ltb (owner_of x) (suc k) (omega arith)) (rw n at (inside (x - start_of i) (omega arith)))
        by_owner x h (no e) =
            outside x e ∙ m.number x h
            ∙ ap (λ (t : Bool). cond t (get_or bank x (pos 0)) (pos 0)) (by_order (ltb (owner_of x) k) refl)
          where
            by_order : (t : Bool) → ltb (owner_of x) k ≡ t → ltb (owner_of x) k ≡ ltb (owner_of x) (suc k)
            by_order true p = p ∙ sym (lt-ltb (owner_of x) (suc k) (omega (arith, ltb-true (owner_of x) k p)))
            by_order false p = p ∙ sym (le-ltb (owner_of x) (suc k) (omega (arith, ltb-false (owner_of x) k p, e)))

    mixed_skip : all_zero bank i ≡ true → Mixed (suc k) b
    mixed_skip z = mixed_more m.size zeros (λ x e. refl)
      where
        zeros : (j : ℕ) → j < count_of (shape_of i.tag) → get_or b (start_of i + j) (pos 0) ≡ filter_number bank i j
        zeros j h =
            let f = start_fits kind in
            let o = owner j h in
            m.number (start_of i + j) (omega arith)
            ∙ rw (le-ltb (owner_of (start_of i + j)) k (omega arith)) (sym (number_none bank i z j h))

    module _ (rest : List ℕ) where
      abbrev row : List ℕ
      row = field_row bank i rest

      many : length (field_numbers row) ≡ count_of (shape_of i.tag)
      many = rw (row_tag bank i rest) at (numbers-length row)

      fits : start_of i + length (field_numbers row) ≤ length b
      fits = let f = start_fits kind in let n = many in let l = m.size in omega arith

      mixed_put : Mixed (suc k) (overwrite (start_of (id_of row)) (field_numbers row) b)
      mixed_put =
          let n = many in
          rw (row_id bank rest kind)
          (mixed_more (overwrite-length (start_of i) (field_numbers row) b fits ∙ m.size)
          (λ j h. overwrite_in (start_of i) (field_numbers row) b fits (pos 0) j (omega arith)
          ∙ row_number rest kind (part_of (shape_of i.tag) j h))
          (λ x e. overwrite_outside (start_of i) (field_numbers row) b fits (pos 0) x
          (λ p q. e (owner_in kind x p (omega arith) ∙ order-at k small))))

  fills : (n k : ℕ) → n + k ≡ 328 → (b : List ℤ) → Mixed k b → Mixed 328 (filled b (fields (filter_fields n k bank) 0))
  unfolding filter_fields filled
  fills zero k e b m = let l : k ≡ 328 = omega arith in rw fields_none (rw l at m)
  fills (suc n) k e b m = by_test (all_zero bank (filter_at k)) refl (fills n (suc k) (omega arith)) (omega arith)
    where
      by_test : (t : Bool) → all_zero bank (filter_at k) ≡ t
          → ((c : List ℤ) → Mixed (suc k) c → Mixed 328 (filled c (fields (filter_fields n (suc k) bank) 0)))
          → k < 328 → Mixed 328 (filled b (fields (filter_field bank (filter_at k) ++ filter_fields n (suc k) bank) 0))
      by_test true p again small = rw (field_none bank (filter_at k) p) (again b (mixed_skip small m p))
      by_test false p again small =
          let rest : List ℕ = filter_fields n (suc k) bank in
          rw (fields-row rest (kind_at k small) p) (again _ (mixed_put small m rest))

-- ---- the file

pub written_depth : (depth : ℕ) (bank : List ℤ) → read_depth (bank_file depth bank) ≡ depth
unfolding read_depth bank_file
written_depth depth bank = refl

module _ (depth : ℕ) (bank : List ℤ) (valid : Valid (2 ^ depth) bank) where
  pub written_bank : read_bank (bank_file depth bank) ≡ bank
  unfolding read_bank bank_file
  written_bank = mixed_all valid (fills valid 328 0 refl _ (mixed_none valid))

  file_fields : fields (bank_file depth bank) 0 ≡ bank_file depth bank ∷ fields (filter_fields 328 0 bank) 0
  unfolding bank_file length_of
  file_fields = fields_step (1 ∷ 0 ∷ 1 ∷ depth ∷ filter_fields 328 0 bank) (omega arith)

  first_field : depth_valid depth ≡ true → field_fault true 0 0 (bank_file depth bank) ≡ 0
  unfolding bank_file whole listed is_depth length_of
  first_field deep =
      let n : ℕ = length (bank_file depth bank) in
      let w : whole (bank_file depth bank) ≡ true = rw (le-leb 3 n (omega arith), le-leb 4 n (omega arith)) in
      sym (first_good (bank_file depth bank) 0 0 w refl refl deep)

  pub written_accepted : depth_valid depth ≡ true → read_fault (bank_file depth bank) 6016 ≡ 0
  unfolding read_fault unless fields_fault bank_file
  written_accepted deep = rw (file_fields, first_field deep) (accepts valid 328 0 refl 0 (omega arith))
