-- Blocks of 8 along one axis: their edge samples, the block that a step leads to, and the CTB that a block lies in. Assumes nothing.
use mathlib.Core.Path.{◌≡◌, sym, ap, ◌∙◌}
use mathlib.Core.Logic.{◌≢◌, by_cases}
use Prim.Native.Nat.{ℕ, pred, ◌*◌, ◌/◌, ◌%◌, ◌<◌}
use native.Mathlib.Decide.{ℕ_discrete}
use native.Mathlib.Omega.{arith}
use Rattle.alf_spec.specs.Geometry.{Side, before, after, next, Axis, luma_position}
use Rattle.alf_spec.proofs.Axes.{Regular}
use Rattle.alf_spec.proofs.IsolatedRegions.WholeCtbs.{block_ctb}
use Rattle.alf_isolation.specs.Blocks.{edge}

-- the edge samples of a block lie in it
pub edge_block : (d : Side) (b : ℕ) → edge d b / 8 ≡ b
edge_block before b = omega arith
edge_block after b = omega arith

-- the edge samples of a block of the picture lie in the picture
pub edge-below : (n : ℕ) → n % 8 ≡ 0 → (d : Side) (b : ℕ) → b < n / 8 → edge d b < n
edge-below n whole before b h = omega arith
edge-below n whole after b h = omega arith

-- a step from an edge sample leads to the next block
pub edge-next : (d : Side) (b : ℕ) → next d (edge d b) / 8 ≡ next d b
edge-next before b = down b
  where
    down : (b : ℕ) → pred (8 * b) / 8 ≡ pred b
    down b = omega arith
edge-next after b = omega arith

-- a step that leaves a block does so from an edge sample
seam : (d : Side) (x : ℕ) → next d x / 8 ≢ x / 8 → (x ≡ edge d (x / 8)) × (next d x / 8 ≡ next d (x / 8))
seam before x ne = down x ne
  where
    down : (x : ℕ) → pred x / 8 ≢ x / 8 → (x ≡ 8 * (x / 8)) × (pred x / 8 ≡ pred (x / 8))
    down x ne = omega arith
seam after x ne = omega arith

-- the block that a step from sample x leads to: x's own, or from an edge sample the next one
pub data Leads (d : Side) (x : ℕ) : ℕ → Type 0 where
  stays : Leads d x (x / 8)
  leaves : x ≡ edge d (x / 8) → Leads d x (next d (x / 8))

pub leads : (d : Side) (x : ℕ) → Leads d x (next d x / 8)
leads d x =
    by_cases (ℕ_discrete (next d x / 8) (x / 8)) (λ (q : next d x / 8 ≡ x / 8). rw q stays) (λ ne.
    let s = seam d x ne in
    rw s.1 (leaves s.0))

-- the samples of a block lie in one CTB
pub same-ctb : (a : Axis) → Regular a → a.ratio ≡ 1 → (x u : ℕ) → x / 8 ≡ u / 8 → luma_position a x / a.ctb ≡ luma_position a u / a.ctb
same-ctb a ok luma x u e = sym (block_ctb a ok luma x) ∙ ap (λ (b : ℕ). b * 8 / a.ctb) e ∙ block_ctb a ok luma u
