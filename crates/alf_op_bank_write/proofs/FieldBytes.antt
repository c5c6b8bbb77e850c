-- The bytes of a filter's field one by one, as the code makes them. Assumes nothing.
use mathlib.Core.Path.{◌≡◌, refl, sym, ◌∙◌, ap}
use mathlib.Core.Logic.{◌≢◌}
use mathlib.Core.Bool.{Bool, true, false, cond}
use mathlib.Core.List.{List, [], append-nil}
use Prim.Native.Nat.{ℕ, ◌+◌, ◌-◌, ◌*◌, ◌/◌, ◌%◌, ◌<◌, ◌≤◌, ◌^◌}
use native.Mathlib.Omega.{arith}
use borrow.Author.Tests.{eq-eqb, eqb-true, eqb-false, leb-true}
use lib.Dec.{eqb, leb}
use lib.IntN.{ℤ, pos, negsuc, nat_abs}
use lib.Signed.{mag}
use lib.ListN.{length, get_or}
use mir.Syntax.{w8, w16}
use mir.Val.{SFits, to_z, of_z}
use mir.Facts.{to_z-of_z}
use Rattle.alf_spec.specs.Lists.{all_below}
use Rattle.alf_spec.specs.Faults.{coeff_valid}
use Rattle.alf_spec.proofs.Tests.{both, same_test, cond_three}
use Rattle.alf_math.proofs.Magnitude.{returned}
use Rattle.alf_bank.specs.declared.FilterId.{FilterId}
use Rattle.alf_bank.specs.declared.FilterShape.{FilterShape}
use Rattle.alf_bank.specs.Filters.{shape_of, size_of, count_of, leads_of, start_of}
use Rattle.alf_bank.specs.Writing.{byte_of, filter_number, zero_at, all_zero, filter_value}
use Rattle.alf_bank.proofs.FieldRows.{row_of, row-length, row_head, row_byte, row-high, row_low}
use Rattle.alf_bank.proofs.FieldRows.{field_head, head_length, coeff_bytes, clip_words, field_row}
use Rattle.alf_bank.proofs.WrittenFiles.{no_magnitude}
use Rattle.alf_op_bank_write.specs.FieldBytes.{head_of, field_bytes}

-- ---- the leading numbers, byte k of the head

module _ (i : FilterId) where
  pub head_aps : {k : ℕ} → k ≡ 3 → i.aps ≡ get_or (head_of i) k 0
  unfolding head_of leads_of
  head_aps e = rw e (cond_three (λ (leads : List ℕ). i.aps ≡ get_or leads 0 0) (eqb i.tag 2) (eqb i.tag 3) _ _ _ refl refl refl)

  -- only a cross-component filter has a third
  pub head_third : (k : ℕ) → 5 ≤ k → k < 3 + (shape_of i.tag).leads → i.filter ≡ get_or (head_of i) k 0
  unfolding head_of leads_of shape_of
  head_third k l h = by_test (eqb i.tag 2) (eqb i.tag 3) refl refl
    where
      by_test : (a b : Bool) → eqb i.tag 2 ≡ a → eqb i.tag 3 ≡ b → i.filter ≡ get_or (head_of i) k 0
      by_test true b p q = absurd (omega (arith, simp p at h))
      by_test false true p q = absurd (omega (arith, simp (p, q) at h))
      by_test false false p q = let e : k ≡ 5 = omega (arith, simp (p, q) at h) in rw e (simp (p, q))

-- ---- numbers

-- a coefficient fits a signed byte, and the bits of that byte are those that are written
pub coeff_fits : (z : ℤ) → coeff_valid z ≡ true → SFits w8 z
unfolding coeff_valid
coeff_fits (pos n) e = let h = leb-true n 127 e in record { sfits = omega arith }
coeff_fits (negsuc n) e = let h = leb-true n 127 (both (leb n 127) true e).0 in record { sfits = omega arith }

pub coeff_bits : (z : ℤ) → coeff_valid z ≡ true → of_z w8 z ≡ byte_of z
unfolding coeff_valid byte_of
coeff_bits (pos n) e = refl
coeff_bits (negsuc n) e = let h = leb-true n 127 (both (leb n 127) true e).0 in omega arith

-- a number is zero where its bits are
pub bits_zero : (z : ℤ) → SFits w16 z → eqb (of_z w16 z) 0 ≡ eqb (nat_abs z) 0
bits_zero z f =
    same_test (eqb (of_z w16 z) 0) (eqb (nat_abs z) 0)
    (λ e. eq-eqb (nat_abs z) 0 (ap nat_abs (sym (to_z-of_z f) ∙ ap (to_z w16) (eqb-true (of_z w16 z) 0 e))))
    (λ e. eq-eqb (of_z w16 z) 0 (ap (of_z w16) (no_magnitude z (eqb-true (nat_abs z) 0 e))))

-- number j of a filter, which begins at s, as it is read from the bank
module _ (bank : List ℤ) (i : FilterId) (j : ℕ) {s : ℕ} (e : s ≡ start_of i) (h : mag (get_or bank (s + j) (pos 0)) < 2 ^ 15) where
  pub number_is : to_z w16 (of_z w16 (get_or bank (s + j) (pos 0))) ≡ filter_number bank i j
  unfolding filter_number
  number_is = returned w16 h (ap (λ (n : ℕ). get_or bank (n + j) (pos 0)) e)

pub zeros_all : (bank : List ℤ) (i : FilterId) {n : ℕ} → n ≡ count_of (shape_of i.tag) → {r : Bool} → r ≡ all_below n (zero_at bank i)
    → r ≡ all_zero bank i
unfolding all_zero
zeros_all bank i e q = rw e at q

-- ---- the bytes of a field

module _ (bank : List ℤ) (i : FilterId) where
  abbrev s : FilterShape
  s = shape_of i.tag

  -- it is a row of fields with nothing behind it
  bytes_row : field_bytes bank i ≡ field_row bank i []
  unfolding field_bytes filter_value row_of
  bytes_row = simp append-nil

  pub bytes_length : length (field_bytes bank i) ≡ 3 + size_of (shape_of i.tag)
  bytes_length =
      let h = head_length i in
      rw bytes_row (row-length (field_head i) [] s.coeffs s.clips (coeff_bytes bank i) (clip_words bank i) ∙ omega arith)

  -- the code has the numbers a and b of leading numbers and coefficients
  pub byte_head : {k a r : ℕ} → a ≡ (shape_of i.tag).leads → k < 3 + a → r ≡ get_or (head_of i) k 0 → r ≡ get_or (field_bytes bank i) k 0
  unfolding head_of
  byte_head {k} e h q =
      let l = head_length i in
      q ∙ rw bytes_row (sym (row_head (field_head i) [] s.coeffs s.clips (coeff_bytes bank i) (clip_words bank i) k (omega arith)))

  -- byte j after the head
  abbrev at : ℕ → ℕ
  at j = get_or (field_bytes bank i) (3 + s.leads + j) 0

  coeff_at_lem : (j : ℕ) → j < s.coeffs → at j ≡ byte_of (filter_number bank i j)
  coeff_at_lem j h =
      rw (bytes_row, ← head_length i) (row_byte (field_head i) [] s.coeffs s.clips (coeff_bytes bank i) (clip_words bank i) j h)

  high-at : (j : ℕ) → j < s.clips → at (s.coeffs + 2 * j) ≡ clip_words bank i j / 256
  high-at j h =
      rw (bytes_row, ← head_length i) (row-high (field_head i) [] s.coeffs s.clips (coeff_bytes bank i) (clip_words bank i) j h)

  low-at : (j : ℕ) → j < s.clips → at (s.coeffs + (2 * j + 1)) ≡ clip_words bank i j % 256
  low-at j h =
      rw (bytes_row, ← head_length i) (row_low (field_head i) [] s.coeffs s.clips (coeff_bytes bank i) (clip_words bank i) j h)

  -- byte k of the field, past a leading numbers
  module _ {k a b : ℕ} (ea : a ≡ (shape_of i.tag).leads) (eb : b ≡ (shape_of i.tag).coeffs) (h : 3 + a ≤ k) where
    pub byte_coeff : k - (3 + a) < b → {r : ℕ} → r ≡ byte_of (filter_number bank i (k - (3 + a))) → r ≡ get_or (field_bytes bank i) k 0
    byte_coeff l q =
        let n : 3 + s.leads + (k - (3 + a)) ≡ k = omega arith in
        q ∙ sym (rw n at (coeff_at_lem (k - (3 + a)) (omega arith)))

    -- past b coefficients it is a byte of clip m, which is w
    module _ (l : b ≤ k - (3 + a)) (t : k < 3 + size_of (shape_of i.tag)) {w : ℕ}
        (e : w ≡ nat_abs (filter_number bank i (b + (k - (3 + a) - b) / 2))) where
      abbrev m : ℕ
      m = (k - (3 + a) - b) / 2

      word_is : w ≡ clip_words bank i m
      word_is = e ∙ ap (λ (n : ℕ). nat_abs (filter_number bank i (n + m))) eb

      pub clip-high : (k - (3 + a) - b) % 2 ≡ 0 → w / 256 ≡ get_or (field_bytes bank i) k 0
      clip-high z =
          let n : 3 + s.leads + (s.coeffs + 2 * m) ≡ k = omega arith in
          rw word_is (sym (rw n at (high-at m (omega arith))))

      pub clip-low : (k - (3 + a) - b) % 2 ≢ 0 → w % 256 ≡ get_or (field_bytes bank i) k 0
      clip-low z =
          let n : 3 + s.leads + (s.coeffs + (2 * m + 1)) ≡ k = omega arith in
          rw word_is (sym (rw n at (low-at m (omega arith))))

      -- the byte that the code takes by whether it is the first of the clip
      pub byte_clip : {r : ℕ} → r ≡ cond (eqb ((k - (3 + a) - b) % 2) 0) (w / 256) (w % 256) → r ≡ get_or (field_bytes bank i) k 0
      byte_clip {r} q = by_test (eqb ((k - (3 + a) - b) % 2) 0) refl
        where
          by_test : (t : Bool) → eqb ((k - (3 + a) - b) % 2) 0 ≡ t → r ≡ get_or (field_bytes bank i) k 0
          by_test true e = rw e at q ∙ clip-high (eqb-true _ 0 e)
          by_test false e = rw e at q ∙ clip-low (eqb-false _ 0 e)
