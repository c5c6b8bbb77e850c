-- A filter's field as the writer makes it, read back: the same filter, the same numbers, no fault. Assumes nothing.
use mathlib.Core.Path.{◌≡◌, refl, sym, ◌∙◌, ap}
use mathlib.Core.Bool.{Bool, true, false}
use mathlib.Core.List.{List, ◌∷◌, ◌++◌, append_assoc}
use Prim.Native.Nat.{ℕ, zero, suc, ◌+◌, ◌-◌, ◌*◌, ◌/◌, ◌%◌, ◌<◌, ◌≤◌}
use native.Mathlib.Omega.{arith}
use borrow.Author.Tests.{lt-ltb, eq-eqb, ltb-true, ltb-false, eqb-true, le-leb}
use lib.Dec.{ltb, eqb}
use lib.IntN.{ℤ, nat_abs}
use lib.ListN.{length, get_or, drop, length-append, get_or-append}
use lib.Seq.{get_or-append-add, drop-append-add, drop_at}
use Rattle.alf_spec.specs.Faults.{coeff_valid}
use Rattle.alf_spec.proofs.Tests.{all_at, at_all, same_test}
use Rattle.alf_bank.specs.declared.FilterId.{FilterId}
use Rattle.alf_bank.specs.declared.FilterShape.{FilterShape}
use Rattle.alf_bank.specs.Filters.{table, shape_of, size_of, count_of, leads_of, id_valid}
use Rattle.alf_bank.specs.Writing.{byte_of, words, filter_number, zero_at, all_zero, filter_value, filter_field}
use Rattle.alf_bank.specs.Reading.{tag_of, length_of, value_at, id_of, signed_byte, coeff_at, clip_at, whole, listed, is_depth, clip_fits}
use Rattle.alf_bank.specs.Reading.{clips_valid, byte_zero, zero_field}
use Rattle.alf_bank.proofs.ByTag.{leads_length}
use Rattle.alf_bank.proofs.FileOrder.{Kind, luma, chroma, cross, Part, coeff, clip, part_of}
use Rattle.alf_bank.proofs.Tables.{table-length, table_at, words-length, words-high, words-low, byte_zero_lem}

-- ---- a head, a table of bytes, words, and what follows

module _ (head rest : List ℕ) (c n : ℕ) (f g : ℕ → ℕ) where
  unfoldable pub row_of : List ℕ
  row_of = head ++ (table c f ++ (words n g ++ rest))

  pub row-length : length row_of ≡ length head + (c + (2 * n + length rest))
  unfolding row_of
  row-length = simp (length-append, table-length, words-length)

  -- its parts
  pub row_head : (j : ℕ) → j < length head → get_or row_of j 0 ≡ get_or head j 0
  unfolding row_of
  row_head j h = get_or-append head (table c f ++ (words n g ++ rest)) 0 j h

  pub row_byte : (j : ℕ) → j < c → get_or row_of (length head + j) 0 ≡ f j
  unfolding row_of
  row_byte j h =
      get_or-append-add head (table c f ++ (words n g ++ rest)) j 0
      ∙ get_or-append (table c f) (words n g ++ rest) 0 j (rw (table-length c f) h)
      ∙ table_at c f 0 j h

  past_bytes : (j : ℕ) → get_or row_of (length head + (c + j)) 0 ≡ get_or (words n g ++ rest) j 0
  unfolding row_of
  past_bytes j =
      get_or-append-add head (table c f ++ (words n g ++ rest)) (c + j) 0
      ∙ rw (table-length c f) at (get_or-append-add (table c f) (words n g ++ rest) j 0)

  pub row-high : (j : ℕ) → j < n → get_or row_of (length head + (c + 2 * j)) 0 ≡ g j / 256
  row-high j h = past_bytes (2 * j) ∙ words-high n g rest j h

  pub row_low : (j : ℕ) → j < n → get_or row_of (length head + (c + (2 * j + 1))) 0 ≡ g j % 256
  row_low j h = past_bytes (2 * j + 1) ∙ words-low n g rest j h

  pub row_rest : drop (length head + (c + 2 * n)) row_of ≡ rest
  unfolding row_of
  row_rest =
      drop-append-add head (table c f ++ (words n g ++ rest)) (c + 2 * n)
      ∙ rw (table-length c f) at (drop-append-add (table c f) (words n g ++ rest) (2 * n))
      ∙ drop_at (words n g) rest (2 * n) (words-length n g)

-- ---- a filter's field

-- tag, length and leading numbers
abbrev pub field_head : FilterId → List ℕ
field_head i = i.tag ∷ 0 ∷ size_of (shape_of i.tag) ∷ leads_of i

pub head_length : (i : FilterId) → length (field_head i) ≡ 3 + (shape_of i.tag).leads
head_length i = let l = leads_length i in omega arith

module _ (bank : List ℤ) (i : FilterId) where
  -- the bytes of its coefficients, and its clips
  abbrev pub coeff_bytes : ℕ → ℕ
  coeff_bytes j = byte_of (filter_number bank i j)

  abbrev pub clip_words : ℕ → ℕ
  clip_words j = nat_abs (filter_number bank i ((shape_of i.tag).coeffs + j))

module _ (bank : List ℤ) (i : FilterId) (rest : List ℕ) where
  -- its bytes and what follows
  abbrev pub field_row : List ℕ
  field_row = row_of (field_head i) rest (shape_of i.tag).coeffs (shape_of i.tag).clips (coeff_bytes bank i) (clip_words bank i)

  pub field_row_lem : all_zero bank i ≡ false → filter_field bank i ++ rest ≡ field_row
  unfolding filter_field filter_value row_of
  field_row_lem e = rw e (simp append_assoc)

  pub row_tag : tag_of field_row ≡ i.tag
  unfolding row_of
  row_tag = refl

  row_states : length_of field_row ≡ size_of (shape_of i.tag)
  unfolding row_of length_of
  row_states = omega arith

  -- short names for its parts
  abbrev row : List ℕ
  row = field_row

  abbrev s : FilterShape
  s = shape_of i.tag

  abbrev f : ℕ → ℕ
  f = coeff_bytes bank i

  abbrev g : ℕ → ℕ
  g = clip_words bank i

  pub row_reach : length row ≡ 3 + size_of s + length rest
  row_reach = let h = head_length i in let l = row-length (field_head i) rest s.coeffs s.clips f g in omega arith

  pub row-whole : whole row ≡ true
  unfolding whole
  row-whole =
      let l = row_reach in let e = row_states in
      rw (le-leb 3 (length row) (omega arith), le-leb (3 + length_of row) (length row) (omega arith))

  pub row_next : drop (3 + length_of row) row ≡ rest
  row_next =
      let h = head_length i in let e = row_states in
      let p : 3 + length_of row ≡ length (field_head i) + (s.coeffs + 2 * s.clips) = omega arith in
      ap (λ (n : ℕ). drop n row) p ∙ row_rest (field_head i) rest s.coeffs s.clips f g

  -- ---- its numbers

  -- byte j after the leading numbers
  abbrev at : ℕ → ℕ
  at j = value_at row (s.leads + j)

  past_leads : (j : ℕ) → at j ≡ get_or row (length (field_head i) + j) 0
  past_leads j =
      let l = head_length i in
      let p : 3 + (s.leads + j) ≡ length (field_head i) + j = omega arith in
      ap (λ (n : ℕ). get_or row n 0) p

  coeff_byte_lem : (j : ℕ) → j < s.coeffs → at j ≡ f j
  coeff_byte_lem j h = past_leads j ∙ row_byte (field_head i) rest s.coeffs s.clips f g j h

  clip-high : (j : ℕ) → j < s.clips → at (s.coeffs + 2 * j) ≡ g j / 256
  clip-high j h = past_leads (s.coeffs + 2 * j) ∙ row-high (field_head i) rest s.coeffs s.clips f g j h

  clip-low : (j : ℕ) → j < s.clips → at (s.coeffs + (2 * j + 1)) ≡ g j % 256
  clip-low j h = past_leads (s.coeffs + (2 * j + 1)) ∙ row_low (field_head i) rest s.coeffs s.clips f g j h

  pub row_coeff : (j : ℕ) → j < s.coeffs → coeff_at row j ≡ signed_byte (f j)
  unfolding coeff_at row_of
  row_coeff j h = ap signed_byte (coeff_byte_lem j h)

  pub row-clip : (j : ℕ) → j < s.clips → clip_at row j ≡ g j
  unfolding clip_at row_of
  row-clip j h =
      let p : 3 + (s.leads + s.coeffs + 2 * j) ≡ 3 + (s.leads + (s.coeffs + 2 * j)) = omega arith in
      let q : 3 + (s.leads + s.coeffs + 2 * j + 1) ≡ 3 + (s.leads + (s.coeffs + (2 * j + 1))) = omega arith in
      rw (p, q, clip-high j h, clip-low j h) (omega arith)

  pub row-clips : (limit : ℕ) → ((j : ℕ) → j < s.clips → g j ≤ limit) → clips_valid limit row ≡ true
  unfolding clips_valid clip_fits row_of
  row-clips limit h = at_all s.clips (clip_fits limit row) (λ j l. rw (row-clip j l) (le-leb (g j) limit (h j l)))

-- ---- of a filter of one of the kinds

pub kind_valid : {i : FilterId} → Kind i → id_valid i ≡ true
unfolding id_valid
kind_valid (luma a f p q) = simp (lt-ltb a 8 p, lt-ltb f 25 q)
kind_valid (chroma a f p q) = simp (lt-ltb a 8 p, lt-ltb f 8 q)
kind_valid (cross a c f p r q) = simp (lt-ltb a 8 p, lt-ltb c 2 r, lt-ltb f 4 q)

module _ (bank : List ℤ) (rest : List ℕ) where
  pub row_id : {i : FilterId} → Kind i → id_of (field_row bank i rest) ≡ i
  unfolding row_of id_of leads_of
  row_id (luma a f p q) = refl
  row_id (chroma a f p q) = refl
  row_id (cross a c f p r q) = refl

  pub row_filter : {i : FilterId} → Kind i → is_depth (field_row bank i rest) ≡ false
  unfolding row_of is_depth
  row_filter (luma a f p q) = refl
  row_filter (chroma a f p q) = refl
  row_filter (cross a c f p r q) = refl

  pub row_listed : {i : FilterId} → Kind i → listed (field_row bank i rest) ≡ true
  unfolding row_of listed
  row_listed (luma a f p q) = eq-eqb _ _ (row_states bank _ rest)
  row_listed (chroma a f p q) = eq-eqb _ _ (row_states bank _ rest)
  row_listed (cross a c f p r q) = eq-eqb _ _ (row_states bank _ rest)

-- ---- its bytes are zero where the filter's numbers are

pub zero_at_lem : (bank : List ℤ) (i : FilterId) (j : ℕ) → zero_at bank i j ≡ true → nat_abs (filter_number bank i j) ≡ 0
unfolding zero_at
zero_at_lem bank i j e = eqb-true (nat_abs (filter_number bank i j)) 0 e

at_zero : (bank : List ℤ) (i : FilterId) (j : ℕ) → nat_abs (filter_number bank i j) ≡ 0 → zero_at bank i j ≡ true
unfolding zero_at
at_zero bank i j e = eq-eqb (nat_abs (filter_number bank i j)) 0 e

-- the bytes after the leading numbers: those of coefficients, then the first and the second of each clip
data Byte (t : FilterShape) : ℕ → Type 0 where
  only : (j : ℕ) → j < t.coeffs → Byte t j
  high : (j : ℕ) → j < t.clips → Byte t (t.coeffs + 2 * j)
  low : (j : ℕ) → j < t.clips → Byte t (t.coeffs + (2 * j + 1))

byte_of_lem : (t : FilterShape) (k : ℕ) → k < t.coeffs + 2 * t.clips → Byte t k
byte_of_lem t k h = by_test (ltb k t.coeffs) refl
  where
    by_test : (b : Bool) → ltb k t.coeffs ≡ b → Byte t k
    by_test true p = only k (ltb-true k t.coeffs p)
    by_test false p = by_half ((k - t.coeffs) % 2) refl (ltb-false k t.coeffs p)
      where
        by_half : (m : ℕ) → (k - t.coeffs) % 2 ≡ m → t.coeffs ≤ k → Byte t k
        by_half zero q l =
            let b : Byte t (t.coeffs + 2 * ((k - t.coeffs) / 2)) = high ((k - t.coeffs) / 2) (omega arith) in
            let n : t.coeffs + 2 * ((k - t.coeffs) / 2) ≡ k = omega arith in
            rw n at b
        by_half (suc m) q l =
            let b : Byte t (t.coeffs + (2 * ((k - t.coeffs) / 2) + 1)) = low ((k - t.coeffs) / 2) (omega arith) in
            let n : t.coeffs + (2 * ((k - t.coeffs) / 2) + 1) ≡ k = omega arith in
            rw n at b

module _ (bank : List ℤ) (i : FilterId) (rest : List ℕ)
    (valid : (j : ℕ) → j < (shape_of i.tag).coeffs → coeff_valid (filter_number bank i j) ≡ true) where
  -- byte j after the leading numbers, and whether it is zero
  abbrev byte : ℕ → ℕ
  byte j = value_at (field_row bank i rest) ((shape_of i.tag).leads + j)

  byte_is : (j : ℕ) → byte_zero (field_row bank i rest) j ≡ eqb (byte j) 0
  unfolding byte_zero row_of
  byte_is j = refl

  number_zero : ((j : ℕ) → j < (shape_of i.tag).coeffs + 2 * (shape_of i.tag).clips → byte j ≡ 0)
      → {k : ℕ} → Part (shape_of i.tag) k → nat_abs (filter_number bank i k) ≡ 0
  number_zero e (coeff j h) =
      let z = eq-eqb (coeff_bytes bank i j) 0 (sym (coeff_byte_lem bank i rest j h) ∙ e j (omega arith)) in
      eqb-true (nat_abs (filter_number bank i j)) 0 (sym (byte_zero_lem (filter_number bank i j) (valid j h)) ∙ z)
  number_zero e (clip j h) =
      let x = e ((shape_of i.tag).coeffs + 2 * j) (omega arith) in
      let y = e ((shape_of i.tag).coeffs + (2 * j + 1)) (omega arith) in
      omega (arith, clip-high bank i rest j h, clip-low bank i rest j h)

  bytes_zero : ((k : ℕ) → k < count_of (shape_of i.tag) → nat_abs (filter_number bank i k) ≡ 0)
      → {j : ℕ} → Byte (shape_of i.tag) j → eqb (byte j) 0 ≡ true
  bytes_zero e (only j h) =
      ap (λ (n : ℕ). eqb n 0) (coeff_byte_lem bank i rest j h)
      ∙ byte_zero_lem (filter_number bank i j) (valid j h)
      ∙ eq-eqb (nat_abs (filter_number bank i j)) 0 (e j (omega arith))
  bytes_zero e (high j h) =
      let z = e ((shape_of i.tag).coeffs + j) (omega arith) in
      eq-eqb (byte ((shape_of i.tag).coeffs + 2 * j)) 0 (omega (arith, clip-high bank i rest j h))
  bytes_zero e (low j h) =
      let z = e ((shape_of i.tag).coeffs + j) (omega arith) in
      eq-eqb (byte ((shape_of i.tag).coeffs + (2 * j + 1))) 0 (omega (arith, clip-low bank i rest j h))

  pub row_zero : zero_field (field_row bank i rest) ≡ all_zero bank i
  unfolding zero_field all_zero row_of
  row_zero =
      let s : FilterShape = shape_of i.tag in
      let n : ℕ = s.coeffs + 2 * s.clips in
      same_test (zero_field (field_row bank i rest)) (all_zero bank i)
      (λ e. at_all (count_of s) (zero_at bank i) (λ k h. at_zero bank i k
      (number_zero (λ j l. eqb-true (byte j) 0 (sym (byte_is j) ∙ all_at n (byte_zero (field_row bank i rest)) e j l)) (part_of s k h))))
      (λ e. at_all n (byte_zero (field_row bank i rest)) (λ j l. byte_is j
      ∙ bytes_zero (λ k h. zero_at_lem bank i k (all_at (count_of s) (zero_at bank i) e k h)) (byte_of_lem s j l)))
