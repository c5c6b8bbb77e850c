-- The fields of a file one by one, as the code takes them: the fields from a position on are the one that stands there and those from the
-- position after it. Assumes nothing.
use mathlib.Core.Path.{◌≡◌, sym, ◌∙◌, ap, subst}
use mathlib.Core.Logic.{◌≢◌}
use mathlib.Core.Bool.{true, false}
use mathlib.Core.List.{List, [], ◌∷◌}
use Prim.Native.Nat.{ℕ, suc, ◌+◌, ◌-◌, ◌<◌, ◌≤◌, ◌^◌}
use native.Mathlib.Omega.{arith}
use borrow.Author.Tests.{eq-eqb, ne_eqb}
use Rattle.std.specs.Prelude.{Option, Some, None, Ok, Err}
use lib.ListN.{length, get_or, drop, length-drop, take, drop_of_length-le}
use lib.Seq.{drop-drop, take_all}
use Rattle.alf_spec.specs.declared.Fault.{Fault}
use Rattle.alf_spec.specs.Answers.{fault_number}
use Rattle.alf_spec.specs.Faults.{unless}
use Rattle.alf_spec.proofs.Answers.{numbered}
use Rattle.alf_bank.specs.Filters.{order_of}
use Rattle.alf_bank.specs.Reading.{length_of, id_of, field_fault, fields, first_of, filters_fault, fields_fault, read_fault}
use Rattle.alf_bank.proofs.FieldFaults.{whole_reach, Good, good_of, depth_small}
use Rattle.alf_bank.proofs.Fields.{fields_none, fields_step}
use Rattle.alf_op_bank_read.specs.declared.Step.{Step}
use Rattle.alf_op_bank_read.specs.Fields.{Seen}
use Rattle.alf_op_bank_read.proofs.FieldTests.{has_head, filter_reaches, has_leads}

-- ---- what stands at a position

module _ (file : List ℕ) (at : ℕ) where
  pub at_field : at < length file
      → fields (drop at file) 0 ≡ drop at file ∷ fields (drop (at + (3 + length_of (drop at file))) file) 0
  at_field h =
      fields_step (drop at file) (rw length-drop (omega arith))
      ∙ ap (λ (l : List ℕ). drop at file ∷ fields l 0) (drop-drop (3 + length_of (drop at file)) at file)

  pub at_end_lem : length file ≤ at → fields (drop at file) 0 ≡ []
  at_end_lem h = rw (drop_of_length-le file h) fields_none

-- a fault decides, whatever comes after it
decides : (f : Fault) (rest : ℕ) → first_of (fault_number f) rest ≡ fault_number f
decides f rest = rw (numbered f)

-- ---- a loop over the fields: what a step says of those from its position on

module _ (file : List ℕ) (at limit from : ℕ) where
  -- `all` is what all fields come to, and the fields from the position on come to the same
  pub loop_fault : (f : Fault) → Seen (Err f) file at limit from → {all : ℕ} → filters_fault limit from (fields (drop at file) 0) ≡ all
      → fault_number f ≡ all
  unfolding filters_fault
  loop_fault f t left =
      let field = drop at file in
      let later = filters_fault limit (suc (order_of (id_of field))) (fields (drop (at + (3 + length_of field)) file) 0) in
      sym (decides f later)
      ∙ (ap (λ (n : ℕ). first_of n later) t.1 ∙ (sym (ap (filters_fault limit from) (at_field file at t.0)) ∙ left))

  module _ {o : Option Step} (seen : Seen (Ok o) file at limit from) where
    pub seen_as : {t : Option Step} → o ≡ t → Seen (Ok t) file at limit from
    seen_as q = subst (λ (t : Option Step). Seen (Ok t) file at limit from) q seen

    module _ {all : ℕ} (left : filters_fault limit from (fields (drop at file) 0) ≡ all) where
      pub loop_end : o ≡ None → 0 ≡ all
      unfolding filters_fault
      loop_end q = sym (ap (filters_fault limit from) (at_end_lem file at (seen_as q))) ∙ left

      pub loop_left : {s : Step} → o ≡ Some s → filters_fault limit s.from (fields (drop s.at file) 0) ≡ all
      unfolding filters_fault
      loop_left q =
          let t = seen_as q in
          rw (t.2, t.3) (sym (ap (filters_fault limit from) (at_field file at t.0) ∙ rw t.1) ∙ left)

    pub loop_good : {s : Step} → o ≡ Some s → Good limit from (drop at file)
    loop_good q = good_of limit from (drop at file) (seen_as q).1

    module _ {s : Step} (q : o ≡ Some s) where
      -- its bytes are in the file
      pub loop_within : s.at ≤ length file
      loop_within =
          let t = seen_as q in
          let r = whole_reach (drop at file) (loop_good q).complete in
          let l = length-drop at file in
          omega arith

-- ---- a field that the judge accepts is a filter's

module _ (f : List ℕ) (limit from : ℕ) (none : 0 ≡ field_fault false limit from f) where
  good_field : Good limit from f
  good_field = good_of limit from f (sym none)

  pub good_head : 3 ≤ length f
  good_head = has_head f good_field.complete

  pub good_leads : 6 ≤ length f
  good_leads = has_leads f (filter_reaches f good_field.complete good_field.known good_field.filter)

-- ---- the whole file

module _ (file : List ℕ) (n : ℕ) where
  pub wrong_length : n ≢ 6016 → 5 ≡ read_fault file n
  unfolding read_fault unless
  wrong_length q = simp (ne_eqb _ _ q)

  module _ (b : n ≡ 6016) where
    pub empty_file : length file ≡ 0 → 18 ≡ read_fault file n
    unfolding read_fault unless fields_fault
    empty_file h = simp (eq-eqb _ _ b, fields_empty file h)
      where
        fields_empty : (l : List ℕ) → length l ≡ 0 → fields l 0 ≡ []
        fields_empty [] q = fields_none
        fields_empty (x ∷ l) q = absurd (omega (arith, q))

    module _ (h : length file ≢ 0) where
      read_is : read_fault file n
          ≡ first_of (field_fault true 0 0 file) (filters_fault (2 ^ get_or file 3 0) 0 (fields (drop (3 + length_of file) file) 0))
      unfolding read_fault unless fields_fault
      read_is = rw (eq-eqb _ _ b, fields_step file (omega arith))

      pub first_faulty : (f : Fault) → fault_number f ≡ field_fault true 0 0 file → fault_number f ≡ read_fault file n
      first_faulty f e =
          let later = filters_fault (2 ^ get_or file 3 0) 0 (fields (drop (3 + length_of file) file) 0) in
          sym (decides f later) ∙ (ap (λ (m : ℕ). first_of m later) e ∙ sym read_is)

      pub rest_decides : 0 ≡ field_fault true 0 0 file → {limit r : ℕ} → limit ≡ 2 ^ get_or file 3 0
          → r ≡ filters_fault limit 0 (fields (drop 4 file) 0) → r ≡ read_fault file n
      rest_decides e l d = d ∙ sym (read_is ∙ rw (← e, (depth_small file 0 0 (sym e)).3, l))

-- ---- a part of a file that runs to its end

pub to_the_end : (l : List ℕ) (at : ℕ) → take (length l - at) (drop at l) ≡ drop at l
to_the_end l at = take_all (length l - at) (drop at l) (rw length-drop (omega arith))
