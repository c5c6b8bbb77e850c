-- A plane's own samples and their luma positions, over the ratio of the plane; and where its line may lie. Assumes nothing.
use mathlib.Core.Path.{◌≡◌}
use mathlib.Core.Logic.{◌↔◌}
use Prim.Native.Nat.{ℕ, zero, suc, pred, ◌+◌, ◌*◌, ◌/◌, ◌%◌, ◌≤◌, ◌<◌}
use native.Mathlib.Nat.{not-suc-le-zero, mul_comm, mul-le-mul_right, div-zero, div-mul-le_self, div-le_of_le-mul}
use native.Mathlib.Omega.{arith}
use lib.Dec.{eqb}
use Rattle.alf_spec.specs.declared.Picture.{Picture}
use Rattle.alf_spec.specs.Lists.{within}
use Rattle.alf_spec.specs.Geometry.{Side, before, after, sub_width, sub_height}
use Rattle.alf_spec.proofs.Tests.{cond_either}

-- luma samples to one of the plane's own: SubWidthC and SubHeightC are 1 or 2 in every format
pub data Ratio : ℕ → Type 0 where
  whole : Ratio 1
  half : Ratio 2

-- the one place that says which
pub chroma_ratios : (p : Picture) → Ratio (sub_width p) × Ratio (sub_height p)
unfolding sub_width sub_height
chroma_ratios p = (
  cond_either Ratio (within 1 2 p.chroma_format) 2 1 half whole,
  cond_either Ratio (eqb p.chroma_format 1) 2 1 half whole,
)

-- the line lies an even number of luma rows above a CTB's bottom, and at most 4 (0: there is none)
abbrev pub LineFits : ℕ → Type 0
LineFits n = (n % 2 ≡ 0) × (n ≤ 4)

pub no_line : LineFits 0
no_line = omega arith

pub luma-line : LineFits 4
luma-line = omega arith

pub chroma-line : {r : ℕ} → Ratio r → LineFits (2 * r)
chroma-line whole = omega arith
chroma-line half = omega arith

-- ---- an even luma position b, and the plane's own sample u

pub own_le : (r b u : ℕ) → b ≤ u * r → b / r ≤ u
own_le r b u h = div-le_of_le-mul r (rw mul_comm at h)

pub le_own : (r : ℕ) → Ratio r → (b u : ℕ) → b % 2 ≡ 0 → b / r ≤ u → b ≤ u * r
le_own _ whole b u q h = omega arith
le_own _ half b u q h = omega arith

pub own_lt : (r : ℕ) → Ratio r → (b u : ℕ) → b % 2 ≡ 0 → u * r < b → u < b / r
own_lt _ whole b u q h = omega arith
own_lt _ half b u q h = omega arith

pub lt_own : (r b u : ℕ) → u < b / r → u * r < b
lt_own zero b u h = absurd (not-suc-le-zero (rw div-zero at h))
lt_own (suc r) b u h = omega (arith, mul-le-mul_right (suc r) h, div-mul-le_self b (suc r))

pub boundary : (r : ℕ) → Ratio r → (b : ℕ) → b % 2 ≡ 0 → b / r * r ≡ b
boundary _ whole b q = omega arith
boundary _ half b q = omega arith

-- positions in order, in the plane's own samples
pub own_order : {r : ℕ} → Ratio r → (a b : ℕ) → a ≤ b → a / r ≤ b / r
own_order whole a b h = omega arith
own_order half a b h = omega arith

-- ---- the last of the plane's own samples in a CTB of size s that begins at b

pub last_own : (r : ℕ) → Ratio r → (b s u : ℕ) → b % 2 ≡ 0 → s % 8 ≡ 0 → 8 ≤ s → (pred (b / r + s / r) < u) ↔ (b + s ≤ u * r)
last_own _ whole b s u q k h = (λ l. omega arith, λ l. omega arith)
last_own _ half b s u q k h = (λ l. omega arith, λ l. omega arith)

pub last_in : (r : ℕ) → Ratio r → (b s x : ℕ) → b % 2 ≡ 0 → s % 8 ≡ 0 → 8 ≤ s → x * r < b + s
    → (x * r ≤ pred (b / r + s / r) * r) × (pred (b / r + s / r) * r ≤ pred (b + s))
last_in _ whole b s x q k h l = omega arith
last_in _ half b s x q k h l = omega arith

-- ---- sides

-- u lies on that side of x, or is x
abbrev pub Toward : Side → ℕ → ℕ → Type 0
Toward before x u = u ≤ x
Toward after x u = x ≤ u

pub toward_luma : (r : ℕ) (d : Side) (v w : ℕ) → Toward d v w → Toward d (v * r) (w * r)
toward_luma r before v w t = mul-le-mul_right r t
toward_luma r after v w t = mul-le-mul_right r t
