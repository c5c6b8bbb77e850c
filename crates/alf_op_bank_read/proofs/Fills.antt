-- The numbers of a field as the code stores them, and the bank that a loop over the fields makes. Assumes nothing.
use mathlib.Core.Path.{◌≡◌, sym, ◌∙◌, ap}
use mathlib.Core.List.{List}
use Prim.Native.Nat.{ℕ, ◌+◌, ◌-◌, ◌<◌, ◌≤◌}
use native.Mathlib.Omega.{arith}
use borrow.Author.Tests.{leb-true}
use lib.IntN.{ℤ, pos}
use lib.ListN.{length, get_or, drop}
use Rattle.alf_spec.specs.declared.Fault.{Fault}
use Rattle.alf_spec.proofs.Tests.{all_at}
use Rattle.alf_spec.proofs.Answers.{numbered}
use Rattle.alf_lists.specs.Overwrite.{overwrite}
use Rattle.alf_lists.proofs.Overwritten.{overwrite-length}
use Rattle.alf_bank.specs.declared.FilterShape.{FilterShape}
use Rattle.alf_bank.specs.Filters.{shape_of, count_of, start_of}
use Rattle.alf_bank.specs.Reading.{tag_of, id_of, coeff_at, clip_at, field_numbers, clip_fits, clips_valid, fields, filters_fault}
use Rattle.alf_bank.specs.Reading.{filled}
use Rattle.alf_bank.proofs.DecodedFields.{kind_of}
use Rattle.alf_bank.proofs.FileOrder.{start_fits}
use Rattle.alf_bank.proofs.WrittenFiles.{numbers-length, numbers_coeff, numbers-clip}
use Rattle.alf_bank.proofs.FieldFaults.{filter_length_lem, Good}
use Rattle.alf_op_bank_read.specs.declared.Step.{Step}
use Rattle.std.specs.Prelude.{Option, Some, None, Ok, Err}
use Rattle.alf_op_bank_read.specs.Fields.{Storable, Seen}
use Rattle.alf_op_bank_read.proofs.Steps.{at_field, at_end_lem, seen_as, loop_fault, loop_good}
use Rattle.alf_op_bank_read.proofs.FieldTests.{filter_reaches}

-- ---- the numbers of a field

module _ (f : List ℕ) where
  -- the shape of the tag's filters
  abbrev shape : FilterShape
  shape = shape_of (get_or f 0 0)

  -- number j, by the number b of coefficients that the code has
  pub number_coeff : (j : ℕ) {b : ℕ} {z : ℤ} → b ≡ shape.coeffs → j < b → z ≡ coeff_at f j → z ≡ get_or (field_numbers f) j (pos 0)
  number_coeff j e h q = q ∙ sym (numbers_coeff f j (omega arith))

  pub number-clip : (j : ℕ) {b : ℕ} {z : ℤ} → b ≡ shape.coeffs → b ≤ j → j < count_of shape → z ≡ pos (clip_at f (j - b))
      → z ≡ get_or (field_numbers f) j (pos 0)
  number-clip j {b} e h l q =
      let n : shape.coeffs + (j - b) ≡ j = omega arith in
      q ∙ sym (rw n at (numbers-clip f (j - b) (omega arith)))

-- ---- a field with no fault can be stored

module _ {limit from : ℕ} (f : List ℕ) (g : Good limit from f) where
  pub good_storable : limit ≤ 4096 → Storable f
  unfolding clips_valid clip_fits
  good_storable most =
      record {
        reaches = filter_reaches f g.complete g.known g.filter;
        clips = λ j h.
            let c = leb-true (clip_at f j) limit (all_at (shape_of (tag_of f)).clips (clip_fits limit f) g.clips j h) in
            omega arith;
      }

  pub good_fits : start_of (id_of f) + count_of (shape_of (tag_of f)) ≤ 6016
  unfolding id_of
  good_fits = let q = filter_length_lem f g.known g.filter in start_fits (kind_of f q.0 q.1 g.leads)

-- the numbers of the field f are stored in the bank b, which makes it c
abbrev Stored : List ℕ → List ℤ → List ℤ → Type 0
Stored f b c = c ≡ overwrite (start_of (id_of f)) (field_numbers f) b

-- ---- a loop that stores the filters: those of the fields from `at` on are left

module _ (file : List ℕ) (at limit from : ℕ) where
  module _ {o : Option Step} (seen : Seen (Ok o) file at limit from) where
    -- with the filters that are left, b comes to what all fields come to
    module _ (b : List ℤ) {all : List ℤ} (left : filled b (fields (drop at file) 0) ≡ all) where
      pub fill_end : o ≡ None → b ≡ all
      unfolding filled
      fill_end q = sym (ap (filled b) (at_end_lem file at (seen_as file at limit from seen q))) ∙ left

      pub fill_next : {s : Step} → o ≡ Some s → {c : List ℤ} → Stored (drop at file) b c → filled c (fields (drop s.at file) 0) ≡ all
      unfolding filled
      fill_next q w =
          let t = seen_as file at limit from seen q in
          rw (w, t.2) (sym (ap (filled b) (at_field file at t.0)) ∙ left)

    pub fill_length : (b : List ℤ) → length b ≡ 6016 → {s : Step} → o ≡ Some s → {c : List ℤ} → Stored (drop at file) b c
        → length c ≡ 6016
    fill_length b size q w =
        let f = good_fits (drop at file) (loop_good file at limit from seen q) in
        let n = numbers-length (drop at file) in
        ap length w ∙ (overwrite-length (start_of (id_of (drop at file))) (field_numbers (drop at file)) b (omega arith) ∙ size)

  -- no field of an accepted file is faulty
  pub fill_faulty : (f : Fault) → Seen (Err f) file at limit from → filters_fault limit from (fields (drop at file) 0) ≡ 0 → ⊥
  fill_faulty f seen z = let n = numbered f in let t = loop_fault file at limit from f seen z in omega arith
