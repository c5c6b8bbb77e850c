-- One bit set at most and 64 at most is the list of the powers of two up to 64, and 0. Assumes nothing.
use mathlib.Core.Path.{◌≡◌, refl, sym}
use mathlib.Core.Bool.{Bool, true, false, not, ◌&&◌, cond, and-false, false≢true}
use mathlib.Core.List.{List, [], ◌∷◌}
use Prim.Native.Nat.{ℕ, suc, ◌≤◌, ◌<◌}
use native.Mathlib.Omega.{arith}
use borrow.Author.Tests.{leb-true, leb-false, lt-leb, ne_eqb}
use lib.Count.{ones_in, ones}
use lib.Dec.{leb}
use lib.IntN.{ℤ, pos, negsuc, nat_abs}
use Rattle.alf_spec.specs.Lists.{all_below, every_from, elem}
use Rattle.alf_spec.specs.Faults.{cross_magnitudes, cross_coeff_valid}
use Rattle.alf_spec.proofs.Tests.{both, all_at}

-- what the code tests of a magnitude
abbrev pub one_bit : ℕ → Bool
one_bit n = leb (ones n) 1 && leb n 64

-- both tests give the same answer
abbrev agree : Bool → Bool → Bool
agree a b = cond a b (not b)

agreed : (a b : Bool) → agree a b ≡ true → a ≡ b
agreed true b e = sym e
agreed false true e = absurd (false≢true e)
agreed false false e = refl

-- at coefficient z
abbrev agree_at : ℤ → Bool
agree_at z = agree (one_bit (nat_abs z)) (cross_coeff_valid z)

-- every coefficient from −128 to 127 gets the answer of the list of powers: n and −1 − n for each n below 128
pub every_coefficient : all_below 128 (λ n. agree_at (pos n) && agree_at (negsuc n)) ≡ true
unfolding all_below elem ones_in ones cross_coeff_valid
every_coefficient = refl

-- a number above every entry of a list does not stand in it
absent : (n bound k : ℕ) (list : List ℕ) → every_from k (λ _ m. leb m bound) list ≡ true → bound < n → elem n list ≡ false
unfolding every_from elem
absent n bound k [] e h = refl
absent n bound k (m ∷ list) e h =
    let parts = both (leb m bound) (every_from (suc k) (λ _ m. leb m bound) list) e in
    let least = leb-true m bound parts.0 in
    rw (ne_eqb n m (omega arith)) (absent n bound (suc k) list parts.1 h)

-- a magnitude above 64 passes neither test
large : (z : ℤ) → 64 < nat_abs z → one_bit (nat_abs z) ≡ cross_coeff_valid z
unfolding every_from cross_coeff_valid
large z h = rw (absent (nat_abs z) 64 0 cross_magnitudes refl h, lt-leb (nat_abs z) 64 h, and-false)

-- a number at which the computed test was made
small : (z : ℤ) → nat_abs z ≤ 64 → one_bit (nat_abs z) ≡ cross_coeff_valid z
small (pos n) h = agreed _ _ (both _ _ (all_at 128 _ every_coefficient n (omega arith))).0
small (negsuc n) h = agreed _ _ (both (agree_at (pos n)) _ (all_at 128 _ every_coefficient n (omega arith))).1

pub one_bit_lem : (z : ℤ) → one_bit (nat_abs z) ≡ cross_coeff_valid z
one_bit_lem z = by_test (leb (nat_abs z) 64) refl
  where
    by_test : (t : Bool) → leb (nat_abs z) 64 ≡ t → one_bit (nat_abs z) ≡ cross_coeff_valid z
    by_test true e = small z (leb-true (nat_abs z) 64 e)
    by_test false e = large z (leb-false (nat_abs z) 64 e)
