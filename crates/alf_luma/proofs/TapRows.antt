-- The rows of the copy that the taps of a row of samples read: they lie one below the other, in the copy. Assumes nothing.
use mathlib.Core.Path.{◌≡◌}
use mathlib.Core.Bool.{Bool, ◌&&◌}
use mathlib.Core.List.{List}
use Prim.Native.Nat.{ℕ, ◌+◌, ◌-◌, ◌*◌, ◌≤◌, ◌<◌}
use native.Mathlib.Nat.{mul-le-mul_right}
use native.Mathlib.Omega.{arith}
use lib.ListN.{length, get_or}
use Rattle.alf_spec.specs.declared.LumaRows.{LumaRows}
use Rattle.alf_spec.specs.Luma.{luma_rows}
use Rattle.alf_spec.proofs.Tests.{cond_either}
use Rattle.alf_luma.specs.Kernel.{RowReads}
use Rattle.alf_luma.specs.Samples.{starts_of}

-- Table 45: offsets rise, up to 3, and the shift is 7 or 10
pub record Rising (r : LumaRows) : Type 0 where
  pub first : r.y1 ≤ r.y2
  pub second : r.y2 ≤ r.y3
  pub third : r.y3 ≤ 3
  pub shift : r.shift < 32

pub rising : (line : Bool) (d : ℕ) → Rising (luma_rows line d)
unfolding luma_rows
rising line d =
    cond_either Rising (line && _) _ _ (omega arith)
    (cond_either Rising (line && _) _ _ (omega arith)
    (cond_either Rising (line && _) _ _ (omega arith) (omega arith)))

pub row_reads : {copy : List ℕ} {r : LumaRows} (pitch t n : ℕ) → Rising r → pitch ≡ n + 6 → (t + 7) * pitch ≤ length copy
    → ((k : ℕ) → k < (t + 7) * pitch → get_or copy k 0 < 4096) → RowReads copy (starts_of pitch t r) n
row_reads {copy} {r} pitch t n offsets wide room samples =
    let low : t + 3 - r.y3 ≤ t + 3 - r.y2 = omega (arith, offsets.second) in
    let mid : t + 3 - r.y2 ≤ t + 3 - r.y1 = omega (arith, offsets.first) in
    let up : t + 3 - r.y1 ≤ t + 3 = omega arith in
    let down : t + 3 ≤ t + 3 + r.y1 = omega arith in
    let last : (t + 3 + r.y3 + 1) * pitch ≤ (t + 7) * pitch = mul-le-mul_right pitch (omega (arith, offsets.third)) in
    record {
      third = mul-le-mul_right pitch low;
      second = mul-le-mul_right pitch mid;
      first = mul-le-mul_right pitch up;
      below = mul-le-mul_right pitch down;
      below2 = mul-le-mul_right pitch (omega (arith, offsets.first));
      below3 = mul-le-mul_right pitch (omega (arith, offsets.second));
      room = omega arith;
      samples = λ k h. samples k (omega arith);
    }
