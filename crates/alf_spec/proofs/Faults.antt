-- What comes after the layout's tests counts only where all of them pass. Assumes nothing.
use mathlib.Core.Path.{◌≡◌, refl}
use mathlib.Core.Bool.{Bool, true, false}
use Prim.Native.Nat.{ℕ, suc}
use native.Mathlib.Omega.{arith}
use Rattle.alf_spec.specs.Input.{Layout}
use Rattle.alf_spec.specs.Faults.{unless, layout_fault}

-- ---- the layout's tests, and what comes after them

-- a test before a chain that gives x where nothing comes after it, and y where something does
further : (test : Bool) {n x y : ℕ} (m : ℕ) → (x ≡ suc n → y ≡ suc n) → unless test m x ≡ suc n → unless test m y ≡ suc n
unfolding unless
further true m f q = f q
further false m f q = q

onward : (test : Bool) {x y rest : ℕ} (m : ℕ) → (x ≡ 0 → y ≡ rest) → unless test (suc m) x ≡ 0 → unless test (suc m) y ≡ rest
unfolding unless
onward true m f q = f q
onward false m f q = omega arith

module _ (l : Layout) (component lengths : Bool) (rest : ℕ) where
  -- where the layout is rejected, what comes after it is not judged
  pub layout_rejects : {n : ℕ} → layout_fault l component lengths 0 ≡ suc n → layout_fault l component lengths rest ≡ suc n
  unfolding layout_fault
  layout_rejects =
      further _ 1 (further _ 2 (further _ 3 (further _ 4
      (further _ 5 (further _ 6 (further _ 7 (further _ 8 (further _ 9 (λ q. omega arith)))))))))

  -- where it is accepted, that alone is judged
  pub layout_accepts : layout_fault l component lengths 0 ≡ 0 → layout_fault l component lengths rest ≡ rest
  unfolding layout_fault
  layout_accepts =
      onward _ 0 (onward _ 1 (onward _ 2 (onward _ 3 (onward _ 4 (onward _ 5 (onward _ 6 (onward _ 7 (onward _ 8 (λ q. refl)))))))))
