-- Laws of cause 5: products and quotients of lengths. Assumes nothing.
use mathlib.Core.Path.{◌≡◌}
use mathlib.Core.Bool.{◌&&◌}
use Prim.Native.Nat.{ℕ, ◌*◌, ◌/◌, ◌%◌, ◌^◌, ◌≤◌, ◌<◌}
use native.Mathlib.Nat.{div-le_self, mul-le-mul}
use native.Mathlib.Omega.{arith}
use borrow.Author.Tests.{eqb-true, eq-eqb}
use lib.Dec.{eqb}
use Rattle.alf_spec.proofs.Tests.{both, same_test}

-- the samples of a plane fit 64 bits
pub product_fits : (w h q r : ℕ) → w < 2 ^ 32 → h < 2 ^ 32 → w / q * (h / r) < 2 ^ 64
product_fits w h q r hw hh =
    let wide : w / q ≤ 4294967295 = omega (arith, div-le_self w q) in
    let high : h / r ≤ 4294967295 = omega (arith, div-le_self h r) in
    omega (arith, mul-le-mul wide high)

-- n is 8 times m
pub eight_each : (m n : ℕ) → (eqb (n / 8) m && eqb (n % 8) 0) ≡ eqb n (8 * m)
eight_each m n =
    same_test _ _
    (λ e.
    let h = both (eqb (n / 8) m) (eqb (n % 8) 0) e in
    let q = eqb-true (n / 8) m h.0 in
    let r = eqb-true (n % 8) 0 h.1 in
    eq-eqb n (8 * m) (omega arith))
    (λ e. let q = eqb-true n (8 * m) e in simp (eq-eqb (n / 8) m (omega arith), eq-eqb (n % 8) 0 (omega arith)))
