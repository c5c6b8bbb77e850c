-- How far from a sample the taps read, by the tables for rows at the line. Assumes nothing.
use mathlib.Core.Bool.{Bool, ◌&&◌}
use Prim.Native.Nat.{ℕ, ◌≤◌}
use native.Mathlib.Omega.{arith}
use Rattle.alf_spec.specs.declared.LumaRows.{LumaRows}
use Rattle.alf_spec.specs.declared.ChromaRows.{ChromaRows}
use Rattle.alf_spec.specs.Arithmetic.{distance}
use Rattle.alf_spec.specs.Luma.{luma_rows, luma_plus, luma_minus}
use Rattle.alf_spec.specs.Chroma.{chroma_rows, chroma_plus, chroma_minus}
use Rattle.alf_spec.specs.CrossComponent.{cross_rows, cross_taps}
use Rattle.alf_spec.proofs.Tests.{cond_either, cond_three}
use Rattle.alf_spec.proofs.Lists.{Each}

-- at most n from (x, y) along each axis
pub record Around (n x y : ℕ) (p : ℕ × ℕ) : Type 0 where
  pub column : distance x p.0 ≤ n
  pub row : distance y p.1 ≤ n

-- Table 45: offsets up to 3
abbrev pub LumaOffsets : LumaRows → Type 0
LumaOffsets r = (r.y1 ≤ 3) × (r.y2 ≤ 3) × (r.y3 ≤ 3)

pub luma_offsets : (line : Bool) (d : ℕ) → LumaOffsets (luma_rows line d)
unfolding luma_rows
luma_offsets line d =
    cond_either LumaOffsets (line && _) _ _ (omega arith)
    (cond_three LumaOffsets (line && _) (line && _) _ _ _ (omega arith) (omega arith) (omega arith))

pub luma_taps : (x y : ℕ) (r : LumaRows) → LumaOffsets r → Each (Around 3 x y) (luma_plus x y r) × Each (Around 3 x y) (luma_minus x y r)
unfolding luma_plus luma_minus distance
luma_taps x y r h = (omega arith, omega arith)

-- Table 46: offsets up to 2
abbrev pub ChromaOffsets : ChromaRows → Type 0
ChromaOffsets r = (r.y1 ≤ 2) × (r.y2 ≤ 2)

pub chroma_offsets : (line : Bool) (d : ℕ) → ChromaOffsets (chroma_rows line d)
unfolding chroma_rows
chroma_offsets line d = cond_three ChromaOffsets (line && _) (line && _) _ _ _ (omega arith) (omega arith) (omega arith)

pub chroma_taps : (x y : ℕ) (r : ChromaRows) → ChromaOffsets r → Each (Around 2 x y) (chroma_plus x y r)
    × Each (Around 2 x y) (chroma_minus x y r)
unfolding chroma_plus chroma_minus distance
chroma_taps x y r h = (omega arith, omega arith)

-- Table 47: offsets up to 2; the limit 3 stands here, so that the rule for luma serves
pub cross_taps_lem : (x y : ℕ) (line : Bool) (d : ℕ) → Each (Around 3 x y) (cross_taps x y (cross_rows line d))
unfolding cross_rows cross_taps distance
cross_taps_lem x y line d =
    cond_three (λ r. Each (Around 3 x y) (cross_taps x y r)) (line && _) (line && _) _ _ _ (omega arith) (omega arith) (omega arith)

-- the sample itself is at distance 0
pub here : (n x y : ℕ) → Around n x y (x, y)
unfolding distance
here n x y = omega arith
