-- Bounds of what the direction test works out. Assumes nothing.
use mathlib.Core.Path.{◌≡◌, refl}
use mathlib.Core.Bool.{Bool, true, false, cond}
use Prim.Native.Nat.{ℕ, ◌+◌, ◌*◌, ◌/◌, ◌%◌, ◌^◌, ◌-◌, ◌≤◌, ◌<◌, min}
use native.Mathlib.Nat.{mod-eq_of_lt, mul-le-mul, le_of_lt}
use native.Mathlib.Omega.{arith}
use lib.Dec.{eqb, ltb}
use borrow.Author.Tests.{ltb-true}
use Rattle.alf_spec.specs.declared.Sums.{Sums}
use Rattle.alf_spec.specs.declared.Gradient.{Gradient}
use Rattle.alf_spec.specs.Lists.{every_from, every}
use Rattle.alf_spec.specs.Classes.{activity_table, transpose_table, gradient, larger, hv, dd, diagonal, main_gradient, other_gradient, strength}
use Rattle.alf_spec.specs.Classes.{activity, transpose_idx, filt_idx, class_of_sums}
use Rattle.alf_spec.specs.Process.{class_number}
use Rattle.alf_spec.proofs.Tests.{cond_either, every-at}

-- a shift by up to 3 loses no bit of a sum below 2^18
pub shift_kept : (n k : ℕ) → n < 2 ^ 18 → k ≤ 8 → n * k % 2 ^ 32 ≡ n * k
shift_kept n k h l = mod-eq_of_lt (omega (arith, mul-le-mul (le_of_lt h) l))

pub strength-small : (g : Gradient) → strength g < 3
unfolding strength
strength-small g = pick (ltb (9 * g.small) (g.large * 2)) (ltb (2 * g.small) g.large)
  where
    pick : (s t : Bool) → cond s 2 (cond t 1 0) < 3
    pick true t = omega arith
    pick false true = omega arith
    pick false false = omega arith

-- one test over the table
activity_test : every (λ x. ltb x 5) activity_table ≡ true
unfolding every_from
activity_test = refl

pub activity-small : (depth factor total : ℕ) → activity depth factor total < 5
unfolding activity
activity-small depth factor total =
    ltb-true _ 5 (every-at 0 0 (λ k x. ltb x 5) activity_table activity_test (min 15 (total * factor / 2 ^ (depth - 1))) (omega arith))

-- which gradient is the main one
module _ (s : Sums) where
  pub main_diagonal : diagonal (dd s) (hv s) ≡ true → (main_gradient s ≡ dd s) × (other_gradient s ≡ hv s)
  unfolding main_gradient other_gradient
  main_diagonal e = (rw e, rw e)

  pub main_straight : diagonal (dd s) (hv s) ≡ false → (main_gradient s ≡ hv s) × (other_gradient s ≡ dd s)
  unfolding main_gradient other_gradient
  main_straight e = (rw e, rw e)

-- ---- class numbers

transpose_test : every (λ x. ltb x 4) transpose_table ≡ true
unfolding every_from
transpose_test = refl

-- a direction is one of those given
larger_direction : (a b x y : ℕ) → x < 4 → y < 4 → (larger a b x y).direction < 4
unfolding larger
larger_direction a b x y = cond_either (λ g. g.direction < 4) (ltb b a) (gradient a b x) (gradient b a y)

module _ (s : Sums) where
  straight_direction : (hv s).direction < 4
  straight_direction = larger_direction s.v s.h 1 3 (omega arith) (omega arith)

  slanted_direction : (dd s).direction < 4
  slanted_direction = larger_direction s.d0 s.d1 0 2 (omega arith) (omega arith)

  main_direction : (main_gradient s).direction < 4
  unfolding main_gradient
  main_direction = cond_either (λ g. g.direction < 4) (diagonal (dd s) (hv s)) (dd s) (hv s) slanted_direction straight_direction

  other_direction : (other_gradient s).direction < 4
  unfolding other_gradient
  other_direction = cond_either (λ g. g.direction < 4) (diagonal (dd s) (hv s)) (hv s) (dd s) straight_direction slanted_direction

  transpose_small : transpose_idx (main_gradient s) (other_gradient s) < 4
  unfolding transpose_idx
  transpose_small =
      ltb-true _ 4
      (every-at 0 0 (λ k x. ltb x 4) transpose_table transpose_test ((main_gradient s).direction * 2 + (other_gradient s).direction / 2)
      (omega (arith, main_direction, other_direction)))

filter_small : (level : ℕ) (main : Gradient) → level < 5 → filt_idx level main < 25
unfolding filt_idx
filter_small level main h =
    cond_either (λ n. n < 25) (eqb (strength main) 0) level (level + (main.direction % 2 * 2 + strength main) * 5)
    (omega arith) (omega (arith, strength-small main))

-- there are 25 classes and 4 transposes
pub class_range : (depth factor : ℕ) (s : Sums) → ((class_of_sums depth factor s).filter < 25) × ((class_of_sums depth factor s).transpose < 4)
unfolding class_of_sums
class_range depth factor s = (filter_small _ (main_gradient s) (activity-small depth factor (s.h + s.v)), transpose_small s)

-- the number of a class fits a byte
pub class_small : (depth factor : ℕ) (s : Sums) → class_number (class_of_sums depth factor s) < 128
class_small depth factor s = omega (arith, class_range depth factor s)
