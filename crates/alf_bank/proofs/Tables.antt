-- Laws of tables, of two-byte words and of bytes in two's complement. Assumes nothing.
use mathlib.Core.Path.{◌≡◌, refl, sym, ◌∙◌, ap}
use mathlib.Core.Bool.{Bool, true, false, cond}
use mathlib.Core.List.{List, [], ◌∷◌, ◌++◌}
use Prim.Native.Nat.{ℕ, zero, suc, ◌+◌, ◌-◌, ◌*◌, ◌/◌, ◌%◌, ◌<◌, ◌≤◌}
use native.Mathlib.Omega.{arith}
use borrow.Author.Tests.{lt-ltb, le-ltb, ltb-true, ltb-false, ne_eqb, leb-true, le-leb}
use lib.Dec.{ltb, eqb, leb}
use lib.IntN.{ℤ, pos, negsuc, nat_abs}
use lib.ListN.{length, get_or, drop}
use Rattle.alf_spec.specs.Faults.{coeff_valid}
use Rattle.alf_spec.proofs.Tests.{both}
use Rattle.alf_bank.specs.Filters.{table}
use Rattle.alf_bank.specs.Writing.{byte_of, words}
use Rattle.alf_bank.specs.Reading.{signed_byte}

-- ---- tables

module _ {A : Type 0} where
  pub table-length : (n : ℕ) (f : ℕ → A) → length (table n f) ≡ n
  unfolding table
  table-length zero f = refl
  table-length (suc n) f = ap suc (table-length n (λ k. f (suc k)))

  pub table_at : (n : ℕ) (f : ℕ → A) (d : A) (k : ℕ) → k < n → get_or (table n f) k d ≡ f k
  unfolding table
  table_at zero f d k h = absurd (omega arith)
  table_at (suc n) f d zero h = refl
  table_at (suc n) f d (suc k) h = table_at n (λ j. f (suc j)) d k (omega arith)

  pub table_same : (n : ℕ) (f g : ℕ → A) → ((k : ℕ) → k < n → f k ≡ g k) → table n f ≡ table n g
  unfolding table
  table_same zero f g h = refl
  table_same (suc n) f g h = rw (h zero (omega arith), table_same n _ _ (λ k l. h (suc k) (omega arith)))

  -- a list is the table of its first entries, and the rest
  pub table_split : (n : ℕ) (d : A) (l : List A) → n ≤ length l → l ≡ table n (λ k. get_or l k d) ++ drop n l
  unfolding table
  table_split zero d l h = refl
  table_split (suc n) d [] h = absurd (omega arith)
  table_split (suc n) d (x ∷ l) h = ap (λ (m : List A). x ∷ m) (table_split n d l (omega arith))

-- ---- words

twice : (k : ℕ) → 2 * suc k ≡ suc (suc (2 * k))
twice k = omega arith

twice_more : (k : ℕ) → 2 * suc k + 1 ≡ suc (suc (2 * k + 1))
twice_more k = omega arith

pub words-length : (n : ℕ) (f : ℕ → ℕ) → length (words n f) ≡ 2 * n
unfolding words
words-length zero f = refl
words-length (suc n) f = let h = words-length n (λ k. f (suc k)) in omega arith

pub words_same : (n : ℕ) (f g : ℕ → ℕ) → ((k : ℕ) → k < n → f k ≡ g k) → words n f ≡ words n g
unfolding words
words_same zero f g h = refl
words_same (suc n) f g h = rw (h zero (omega arith), words_same n _ _ (λ k l. h (suc k) (omega arith)))

-- the first byte of word k, and the second, whatever follows the words
pub words-high : (n : ℕ) (f : ℕ → ℕ) (rest : List ℕ) (k : ℕ) → k < n → get_or (words n f ++ rest) (2 * k) 0 ≡ f k / 256
unfolding words
words-high zero f rest k h = absurd (omega arith)
words-high (suc n) f rest zero h = refl
words-high (suc n) f rest (suc k) h = rw twice (words-high n (λ j. f (suc j)) rest k (omega arith))

pub words-low : (n : ℕ) (f : ℕ → ℕ) (rest : List ℕ) (k : ℕ) → k < n → get_or (words n f ++ rest) (2 * k + 1) 0 ≡ f k % 256
unfolding words
words-low zero f rest k h = absurd (omega arith)
words-low (suc n) f rest zero h = refl
words-low (suc n) f rest (suc k) h = rw twice_more (words-low n (λ j. f (suc j)) rest k (omega arith))

-- the word at two bytes of a list
unfoldable pub word_at : List ℕ → ℕ → ℕ
word_at l k = 256 * get_or l k 0 + get_or l (k + 1) 0

-- a list of bytes is the words at its first bytes, and the rest
pub words_split : (n : ℕ) (l : List ℕ) → 2 * n ≤ length l → ((k : ℕ) → get_or l k 0 < 256)
    → l ≡ words n (λ k. word_at l (2 * k)) ++ drop (2 * n) l
unfolding words word_at
words_split zero l h b = refl
words_split (suc n) [] h b = absurd (omega arith)
words_split (suc n) (x ∷ []) h b = absurd (omega arith)
words_split (suc n) (x ∷ y ∷ l) h b =
    let small = b 1 in
    let high : (256 * x + y) / 256 ≡ x = omega arith in
    let low : (256 * x + y) % 256 ≡ y = omega arith in
    let rest = words_same n (λ k. word_at (x ∷ y ∷ l) (2 * suc k)) (λ k. word_at l (2 * k)) (λ k q. rw (twice_more k, twice k)) in
    sym (rw (high, low, rest, twice n)
    (ap (λ (m : List ℕ). x ∷ y ∷ m) (sym (words_split n l (omega arith) (λ k. b (suc (suc k)))))))

-- ---- bytes in two's complement

pub byte_of_signed : (b : ℕ) → b < 256 → byte_of (signed_byte b) ≡ b
unfolding byte_of signed_byte
byte_of_signed b h = by_test (ltb b 128)
  where
    by_test : (t : Bool) → byte_of (cond t (pos b) (negsuc (255 - b))) ≡ b
    by_test true = refl
    by_test false = omega arith

pub signed_of_byte : (z : ℤ) → coeff_valid z ≡ true → signed_byte (byte_of z) ≡ z
unfolding byte_of signed_byte coeff_valid
signed_of_byte (pos n) e = let h = leb-true n 127 e in simp (lt-ltb n 128 (omega arith))
signed_of_byte (negsuc n) e =
    let h = leb-true n 127 (both (leb n 127) true e).0 in
    let l : ltb (255 - n) 128 ≡ false = le-ltb (255 - n) 128 (omega arith) in
    simp l (ap negsuc (omega arith))

pub byte_small : (z : ℤ) → coeff_valid z ≡ true → byte_of z < 256
unfolding coeff_valid byte_of
byte_small (pos n) e = let h = leb-true n 127 e in omega arith
byte_small (negsuc n) e = omega arith

-- a coefficient's byte is zero where it is
pub byte_zero_lem : (z : ℤ) → coeff_valid z ≡ true → eqb (byte_of z) 0 ≡ eqb (nat_abs z) 0
unfolding byte_of coeff_valid
byte_zero_lem (pos n) e = refl
byte_zero_lem (negsuc n) e =
    let h = leb-true n 127 (both (leb n 127) true e).0 in
    ne_eqb (255 - n) 0 (omega arith) ∙ sym (ne_eqb (suc n) 0 (omega arith))

-- what a byte stands for is a coefficient
pub signed_valid : (b : ℕ) → b < 256 → coeff_valid (signed_byte b) ≡ true
unfolding signed_byte coeff_valid
signed_valid b h = by_test (ltb b 128) refl
  where
    by_test : (t : Bool) → ltb b 128 ≡ t → coeff_valid (cond t (pos b) (negsuc (255 - b))) ≡ true
    by_test true e = let l = ltb-true b 128 e in le-leb b 127 (omega arith)
    by_test false e = let l = ltb-false b 128 e in rw (le-leb (255 - b) 127 (omega arith))
