-- The sum of twelve taps is small.
use Rattle.std.proofs.Common.{◌≡◌, w32, to_z, of_z, arith}
use Rattle.alf_spec.specs.Arithmetic.{tap_sum}
use Rattle.alf_math.proofs.Magnitude.{returned}
use Rattle.alf_taps.specs.Spread.{spread_coeff, spread_clip}
use Rattle.alf_taps.proofs.SpreadTaps.{spread_sum}
use Rattle.alf_luma.specs.Kernel.{current, plus_samples, minus_samples, filtered_at}
use Rattle.alf_luma.proofs.kernel.luma_at.Goals as goal
use Rattle.alf_luma.proofs.kernel.luma_at.Goals.{After-luma_sum}

-- what the sum of taps is, which comes back as bits
summed : (c : After-luma_sum) → let s = c.args.source.now in let x = c.args.x in
    to_z w32 (of_z w32 c.luma_sum.result) ≡ tap_sum 12 (current s.copy.now s.starts x) (spread_coeff s.taps.now x)
    (spread_clip s.taps.now x) (plus_samples s.copy.now s.starts x) (minus_samples s.copy.now s.starts x)
summed c = returned w32 c.luma_sum.type_inv c.luma_sum.ensures

pub filtered-requires : goal.filtered-requires
filtered-requires c =
    let s = c.args.source.now in
    let x = c.args.x in
    let reads = c.requires.0 in
    let small = spread_sum s.numbers x c.requires.1 12 (omega arith) (current s.copy.now s.starts x)
    (plus_samples s.copy.now s.starts x) (minus_samples s.copy.now s.starts x) in
    rw (summed (goal.at.filtered-requires c).After-luma_sum)
    (reads.samples _ (omega (arith, reads)), omega (arith, small), s.shift_fits, s.depth_fits)

pub returns : goal.returns
unfolding filtered_at
returns c = simp (summed (goal.at.returns c).After-luma_sum) at c.filtered.ensures
