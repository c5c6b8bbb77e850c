-- The rows of a copy that the taps of a row of samples read. Assumes nothing.
use mathlib.Core.List.{List}
use Prim.Native.Nat.{ℕ, ◌≤◌}
use native.Mathlib.Omega.{arith}
use Rattle.alf_luma.specs.declared.kernel.Starts.{Starts}
use Rattle.alf_luma.specs.Kernel.{RowReads}

-- fewer columns of them
pub fewer : {copy : List ℕ} {s : Starts} {m n : ℕ} → RowReads copy s n → m ≤ n → RowReads copy s m
fewer r h = record {
  third = r.third;
  second = r.second;
  first = r.first;
  below = r.below;
  below2 = r.below2;
  below3 = r.below3;
  room = omega (arith, r.room);
  samples = λ k l. r.samples k (omega arith);
}
