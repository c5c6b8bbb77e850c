-- The range of each number of the bank, by its number in an APS. Assumes nothing.
use mathlib.Core.Path.{◌≡◌}
use mathlib.Core.Bool.{true, false}
use mathlib.Core.List.{List}
use Prim.Native.Nat.{ℕ, ◌+◌, ◌-◌, ◌*◌, ◌/◌, ◌%◌, ◌≤◌, ◌<◌}
use native.Mathlib.Nat.{mul_comm}
use native.Mathlib.Omega.{arith}
use borrow.Author.Tests.{lt-ltb, le-ltb, le-leb, lt-leb}
use lib.Arith.{digits_div, digits_mod}
use lib.IntN.{ℤ, pos}
use lib.ListN.{get_or}
use Rattle.alf_spec.specs.Faults.{is_clip}
use Rattle.alf_math.specs.Integers.{CoeffRange, ClipRange}
use Rattle.alf_params.specs.Tables.{BankNumbers}

-- number r of piece q, where each has m
pub number_in : (m q r : ℕ) → r < m → (m * q + r) % m ≡ r
number_in m q r h = rw (mul_comm m q) (digits_mod q h)

pub piece_of : (m q r : ℕ) → r < m → (m * q + r) / m ≡ q
piece_of m q r h = rw (mul_comm m q) (digits_div q h)

-- whether a number of an APS is a clip: those of luma
module _ (filter j : ℕ) (class : filter < 25) (tap : j < 12) where
  luma_coefficient_test : is_clip (24 * filter + j) ≡ false
  unfolding is_clip
  luma_coefficient_test = rw (lt-ltb (24 * filter + j) 600 (omega arith), number_in 24 filter j (omega arith)) (lt-leb 12 j tap)

  luma-clip_test : is_clip (24 * filter + (12 + j)) ≡ true
  unfolding is_clip
  luma-clip_test = rw (lt-ltb (24 * filter + (12 + j)) 600 (omega arith), number_in 24 filter (12 + j) (omega arith))
      (le-leb 12 (12 + j) (omega arith))

-- whether a number of an APS is a clip: those of chroma
module _ (alternative j : ℕ) (few : alternative ≤ 7) where
  -- counted from the first alternative on
  in_alternative : j < 12 → (600 + 12 * alternative + j - 600) % 12 ≡ j
  in_alternative h = let e : 600 + 12 * alternative + j - 600 ≡ 12 * alternative + j = omega arith in rw e (number_in 12 alternative j h)

  chroma_coefficient_test : j < 6 → is_clip (600 + 12 * alternative + j) ≡ false
  unfolding is_clip
  chroma_coefficient_test h =
      let p : ℕ = 600 + 12 * alternative + j in
      rw (le-ltb p 600 (omega arith), lt-ltb p 696 (omega arith), in_alternative (omega arith)) (lt-leb 6 j h)

  chroma-clip_test : 6 ≤ j → j < 12 → is_clip (600 + 12 * alternative + j) ≡ true
  unfolding is_clip
  chroma-clip_test l h =
      let p : ℕ = 600 + 12 * alternative + j in
      rw (le-ltb p 600 (omega arith), lt-ltb p 696 (omega arith), in_alternative h) (le-leb 6 j l)

-- no number of a cross-component filter is a clip
cross_test : (p : ℕ) → 696 ≤ p → is_clip p ≡ false
unfolding is_clip
cross_test p h = rw (le-ltb p 600 (omega arith), le-ltb p 696 h)

module _ {bank : List ℤ} (b : BankNumbers bank) (aps : ℕ) where
  coefficient : (p : ℕ) → p < 752 → is_clip p ≡ false → CoeffRange (get_or bank (752 * aps + p) (pos 0))
  coefficient p h e = b.coefficients (752 * aps + p) (rw (number_in 752 aps p h) e)

  clip : (p : ℕ) → p < 752 → is_clip p ≡ true → ClipRange (get_or bank (752 * aps + p) (pos 0))
  clip p h e = b.clips (752 * aps + p) (rw (number_in 752 aps p h) e)

  pub luma_coefficient : (filter j : ℕ) → filter < 25 → j < 12 → CoeffRange (get_or bank (752 * aps + (24 * filter + j)) (pos 0))
  luma_coefficient filter j class tap = coefficient _ (omega arith) (luma_coefficient_test filter j class tap)

  pub luma-clip : (filter j : ℕ) → filter < 25 → j < 12 → ClipRange (get_or bank (752 * aps + (24 * filter + (12 + j))) (pos 0))
  luma-clip filter j class tap = clip _ (omega arith) (luma-clip_test filter j class tap)

  pub chroma_coefficient : (alternative j : ℕ) → alternative ≤ 7 → j < 6
      → CoeffRange (get_or bank (752 * aps + (600 + 12 * alternative + j)) (pos 0))
  chroma_coefficient alternative j few h = coefficient _ (omega arith) (chroma_coefficient_test alternative j few h)

  pub chroma-clip : (alternative j : ℕ) → alternative ≤ 7 → 6 ≤ j → j < 12
      → ClipRange (get_or bank (752 * aps + (600 + 12 * alternative + j)) (pos 0))
  chroma-clip alternative j few l h = clip _ (omega arith) (chroma-clip_test alternative j few l h)

  pub cross_coefficient : (p : ℕ) → 696 ≤ p → p < 752 → CoeffRange (get_or bank (752 * aps + p) (pos 0))
  cross_coefficient p l h = coefficient p h (cross_test p l)
