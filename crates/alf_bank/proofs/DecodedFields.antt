-- A filter's field that has no fault is what the writer makes of its numbers. Assumes nothing.
use mathlib.Core.Path.{◌≡◌, refl, sym, ◌∙◌, ap, ap₂}
use mathlib.Core.Logic.{◌≢◌}
use mathlib.Core.Bool.{Bool, true, false}
use mathlib.Core.List.{List, ◌∷◌, ◌++◌}
use Prim.Native.Nat.{ℕ, ◌+◌, ◌*◌, ◌<◌, ◌≤◌}
use native.Mathlib.Omega.{arith}
use native.Mathlib.Decide.{ℕ_discrete}
use borrow.Author.Tests.{ltb-true, leb-true}
use lib.Dec.{ltb, eqb}
use lib.IntN.{ℤ, pos, nat_abs}
use lib.ListN.{length, get_or, drop, length-drop}
use lib.Seq.{get_or-drop, drop-drop}
use Rattle.alf_spec.specs.Faults.{coeff_valid}
use Rattle.alf_spec.proofs.Tests.{both, all_at}
use Rattle.alf_bank.specs.declared.FilterShape.{FilterShape}
use Rattle.alf_bank.specs.Filters.{table, shape_of, size_of, leads_of, id_valid}
use Rattle.alf_bank.specs.Writing.{byte_of, words, filter_number, all_zero, filter_field}
use Rattle.alf_bank.specs.Reading.{tag_of, length_of, value_at, id_of, coeff_at, clip_at, clip_fits, clips_valid, zero_field}
use Rattle.alf_bank.proofs.FileOrder.{Kind, luma, chroma, cross}
use Rattle.alf_bank.proofs.FieldRows.{row_of, field_row, field_row_lem, row_zero}
use Rattle.alf_bank.proofs.Tables.{table_same, table_split, words_same, word_at, words_split, byte_of_signed, signed_valid}
use Rattle.alf_bank.proofs.ByTag.{id_of_two, id_of_three, id_luma, id_chroma, id_cross, valid_luma, valid_chroma, valid_cross}
use Rattle.alf_bank.proofs.FieldFaults.{size_small, whole_reach, filter_length_lem, Good}

-- each read gives a byte, past the end too
abbrev pub ByteReads : List ℕ → Type 0
ByteReads l = (k : ℕ) → get_or l k 0 < 256

-- ---- by tag

-- a number that is 2, 3 or 4
by_tag_lem : {P : Type 0} (t : ℕ) → 2 ≤ t → t ≤ 4 → (t ≡ 2 → P) → (t ≢ 2 → t ≡ 3 → P) → (t ≢ 2 → t ≢ 3 → t ≡ 4 → P) → P
by_tag_lem {P} t lo hi two three four = by_two (ℕ_discrete t 2)
  where
    by_two : Dec (t ≡ 2) → P
    by_two (yes e) = two e
    by_two (no n) = by_three (ℕ_discrete t 3)
      where
        by_three : Dec (t ≡ 3) → P
        by_three (yes e) = three n e
        by_three (no m) = four n m (omega arith)

module _ (f : List ℕ) where
  -- the head of a field, by its bytes
  head_of : table (3 + (shape_of (tag_of f)).leads) (λ k. get_or f k 0) ≡ get_or f 0 0 ∷ get_or f 1 0 ∷ get_or f 2 0 ∷ leads_of (id_of f)
  unfolding table shape_of leads_of id_of
  head_of = by_test (eqb (tag_of f) 2) (eqb (tag_of f) 3) refl refl
    where
      by_test : (a b : Bool) → eqb (tag_of f) 2 ≡ a → eqb (tag_of f) 3 ≡ b
          → table (3 + (shape_of (tag_of f)).leads) (λ k. get_or f k 0) ≡ get_or f 0 0 ∷ get_or f 1 0 ∷ get_or f 2 0 ∷ leads_of (id_of f)
      by_test true b p q = simp p
      by_test false true p q = simp (p, q)
      by_test false false p q = simp (p, q)

  pub kind_of : 2 ≤ tag_of f → tag_of f ≤ 4 → id_valid (id_of f) ≡ true → Kind (id_of f)
  kind_of lo hi v = by_tag_lem (tag_of f) lo hi of_luma of_chroma_lem of_cross_lem
    where
      of_luma : tag_of f ≡ 2 → Kind (id_of f)
      of_luma e =
          let p = both (ltb (get_or f 3 0) 8) (ltb (get_or f 4 0) 25) (valid_luma (id_of_two f) e ∙ ap id_valid (id_luma f e) ∙ v) in
          rw (← id_luma f e, e) (luma (get_or f 3 0) (get_or f 4 0) (ltb-true (get_or f 3 0) 8 p.0) (ltb-true (get_or f 4 0) 25 p.1))

      of_chroma_lem : tag_of f ≢ 2 → tag_of f ≡ 3 → Kind (id_of f)
      of_chroma_lem n e =
          let p = both (ltb (get_or f 3 0) 8) (ltb (get_or f 4 0) 8) (valid_chroma (id_of_two f) n e ∙ ap id_valid (id_chroma f n e) ∙ v) in
          rw (← id_chroma f n e, e) (chroma (get_or f 3 0) (get_or f 4 0) (ltb-true (get_or f 3 0) 8 p.0) (ltb-true (get_or f 4 0) 8 p.1))

      of_cross_lem : tag_of f ≢ 2 → tag_of f ≢ 3 → tag_of f ≡ 4 → Kind (id_of f)
      of_cross_lem n m e =
          let p = both (ltb (get_or f 3 0) 8) _ (valid_cross (id_of_three f) n m ∙ ap id_valid (id_cross f n m) ∙ v) in
          let q = both (ltb (get_or f 4 0) 2) (ltb (get_or f 5 0) 4) p.1 in
          rw (← id_cross f n m, e) (cross (get_or f 3 0) (get_or f 4 0) (get_or f 5 0)
          (ltb-true (get_or f 3 0) 8 p.0) (ltb-true (get_or f 4 0) 2 q.0) (ltb-true (get_or f 5 0) 4 q.1))

-- ---- a field with no fault

module _ {limit from : ℕ} {f : List ℕ} (g : Good limit from f) (small : ByteReads f) where
  abbrev s : FilterShape
  s = shape_of (tag_of f)

  shape : (2 ≤ tag_of f) × (tag_of f ≤ 4) × (length_of f ≡ size_of s)
  shape = filter_length_lem f g.known g.filter

  pub good_kind : Kind (id_of f)
  good_kind = kind_of f shape.0 shape.1 g.leads

  good_reach : 3 + size_of s ≤ length f
  good_reach = let r = whole_reach f g.complete in let q = shape in omega arith

  -- its length is one byte
  length_bytes : (get_or f 1 0 ≡ 0) × (get_or f 2 0 ≡ size_of s)
  unfolding length_of
  length_bytes = let q = shape.2 in let l = size_small (tag_of f) in let b = small 2 in (omega arith, omega arith)

  pub coeff_in : (bank : List ℤ) → ((j : ℕ) → j < s.coeffs → filter_number bank (id_of f) j ≡ coeff_at f j)
      → (j : ℕ) → j < (shape_of (id_of f).tag).coeffs → coeff_valid (filter_number bank (id_of f) j) ≡ true
  unfolding id_of coeff_at
  coeff_in bank coeffs j h = rw (coeffs j h) (signed_valid (value_at f (s.leads + j)) (small (3 + (s.leads + j))))

  pub clip-small : (j : ℕ) → j < s.clips → clip_at f j ≤ limit
  unfolding clips_valid clip_fits
  clip-small j h = leb-true (clip_at f j) limit (all_at s.clips (clip_fits limit f) g.clips j h)

  -- what follows its leading numbers, its coefficients, and itself
  abbrev body : List ℕ
  body = drop (3 + s.leads) f

  abbrev clip_body : List ℕ
  clip_body = drop s.coeffs body

  abbrev next : List ℕ
  next = drop (3 + length_of f) f

  body_at : (j : ℕ) → get_or body j 0 ≡ value_at f (s.leads + j)
  body_at j =
      let n : 3 + s.leads + j ≡ 3 + (s.leads + j) = omega arith in
      get_or-drop (3 + s.leads) f j 0 ∙ ap (λ (m : ℕ). get_or f m 0) n

  clip-at : (j : ℕ) → get_or clip_body j 0 ≡ value_at f (s.leads + (s.coeffs + j))
  clip-at j = get_or-drop s.coeffs body j 0 ∙ body_at (s.coeffs + j)

  clip-next : drop (2 * s.clips) clip_body ≡ next
  clip-next =
      let n : 3 + s.leads + (s.coeffs + 2 * s.clips) ≡ 3 + length_of f = omega (arith, shape.2) in
      drop-drop (2 * s.clips) s.coeffs body ∙ drop-drop (s.coeffs + 2 * s.clips) (3 + s.leads) f ∙ rw n

  -- a bank that has its numbers
  module _ (bank : List ℤ) (coeffs : (j : ℕ) → j < s.coeffs → filter_number bank (id_of f) j ≡ coeff_at f j)
      (clips : (j : ℕ) → j < s.clips → filter_number bank (id_of f) (s.coeffs + j) ≡ pos (clip_at f j)) where
    -- the bytes of its coefficients, and its clips
    abbrev bytes : ℕ → ℕ
    bytes j = byte_of (filter_number bank (id_of f) j)

    abbrev values : ℕ → ℕ
    values j = nat_abs (filter_number bank (id_of f) (s.coeffs + j))

    head_decoded : table (3 + s.leads) (λ k. get_or f k 0) ≡ get_or f 0 0 ∷ 0 ∷ size_of s ∷ leads_of (id_of f)
    head_decoded = let b = length_bytes in head_of f ∙ rw (b.0, b.1)

    coeffs_decoded : table s.coeffs (λ k. get_or body k 0) ≡ table s.coeffs bytes
    unfolding coeff_at
    coeffs_decoded =
        table_same s.coeffs _ _ (λ j h.
        body_at j ∙ sym (ap byte_of (coeffs j h) ∙ byte_of_signed (value_at f (s.leads + j)) (small (3 + (s.leads + j)))))

    words_decoded : words s.clips (λ k. word_at clip_body (2 * k)) ≡ words s.clips values
    unfolding clip_at word_at
    words_decoded =
        words_same s.clips _ _ (λ j h.
        let m : s.leads + (s.coeffs + 2 * j) ≡ s.leads + s.coeffs + 2 * j = omega arith in
        let n : s.leads + (s.coeffs + (2 * j + 1)) ≡ s.leads + s.coeffs + 2 * j + 1 = omega arith in
        rw (clip-at (2 * j), clip-at (2 * j + 1), m, n) (sym (ap nat_abs (clips j h))))

    clips_decoded : clip_body ≡ words s.clips values ++ next
    clips_decoded =
        let r = good_reach in let l = length-drop (3 + s.leads) f in let k = length-drop s.coeffs body in
        words_split s.clips clip_body (omega arith) (λ j. rw (clip-at j) (small (3 + (s.leads + (s.coeffs + j)))))
        ∙ ap₂ (λ (a b : List ℕ). a ++ b) words_decoded clip-next

    body_decoded : body ≡ table s.coeffs bytes ++ (words s.clips values ++ next)
    body_decoded =
        let r = good_reach in let l = length-drop (3 + s.leads) f in
        table_split s.coeffs 0 body (omega arith) ∙ ap₂ (λ (a b : List ℕ). a ++ b) coeffs_decoded clips_decoded

    row_decoded : f ≡ field_row bank (id_of f) next
    unfolding row_of id_of
    row_decoded =
        let r = good_reach in
        table_split (3 + s.leads) 0 f (omega arith) ∙ ap₂ (λ (a b : List ℕ). a ++ b) head_decoded body_decoded

    decoded_used : all_zero bank (id_of f) ≡ false
    decoded_used = sym (row_zero bank (id_of f) next (coeff_in bank coeffs)) ∙ ap zero_field (sym row_decoded) ∙ g.used

    -- what the writer makes of it, and what follows
    pub decoded_field : filter_field bank (id_of f) ++ drop (3 + length_of f) f ≡ f
    decoded_field = field_row_lem bank (id_of f) next decoded_used ∙ sym row_decoded
