-- A product of two 32-bit numbers from 16-bit halves. Assumes nothing.
use mathlib.Core.Path.{◌≡◌, refl, sym, ◌∙◌}
use Prim.Native.Nat.{ℕ, ◌+◌, ◌*◌, ◌/◌, ◌%◌, ◌^◌}
use native.Mathlib.Nat.{add_assoc, add_comm, add_left_comm, mul_assoc, mul_comm, mul_left_comm, mul-add, add-mul, div-add-mod'}

by_digits : (w a1 a0 b1 b0 : ℕ) → (a1 * w + a0) * (b1 * w + b0) ≡ a1 * b1 * (w * w) + a1 * b0 * w + a0 * b1 * w + a0 * b0
by_digits w a1 a0 b1 b0 = simp (mul-add, add-mul, mul_assoc, mul_comm, mul_left_comm, add_assoc, add_comm, add_left_comm) refl

-- the four products of halves, each in its column
pub by_halves : (a b : ℕ) → a * b ≡ a / 2 ^ 16 * (b / 2 ^ 16) * 2 ^ 32 + a / 2 ^ 16 * (b % 2 ^ 16) * 2 ^ 16 + a % 2 ^ 16 * (b / 2 ^ 16)
    * 2 ^ 16 + a % 2 ^ 16 * (b % 2 ^ 16)
by_halves a b =
    (λ i. sym (div-add-mod' a (2 ^ 16)) i * sym (div-add-mod' b (2 ^ 16)) i)
    ∙ by_digits (2 ^ 16) (a / 2 ^ 16) (a % 2 ^ 16) (b / 2 ^ 16) (b % 2 ^ 16)
