-- Spread numbers that are all 0 are in their ranges. Assumes nothing.
use mathlib.Core.Path.{refl}
use Prim.Native.Nat.{◌+◌}
use native.Mathlib.Omega.{arith}
use lib.IntN.{pos}
use lib.ListN.{replicate, length-replicate}
use Rattle.alf_taps.specs.Spread.{TapNumbers}
use Rattle.alf_params.proofs.LoadedFilters.{zeros}

pub zero_numbers : TapNumbers (replicate 3072 (pos 0))
zero_numbers = record {
  room = rw (length-replicate 3072 (pos 0)) (omega arith);
  coefficients = λ k h. rw (zeros 3072 k) (omega arith);
  clips = λ k h. rw (zeros 3072 (1536 + k)) (record { level = refl; small = omega arith });
}
