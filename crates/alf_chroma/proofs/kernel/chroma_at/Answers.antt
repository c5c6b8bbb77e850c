-- A sum of six taps is small. Assumes nothing.
use Rattle.std.proofs.Common.{◌≡◌, ◌+◌, w32, to_z, of_z, get_or, arith}
use Rattle.alf_spec.specs.Arithmetic.{tap_sum}
use Rattle.alf_math.proofs.Magnitude.{returned}
use Rattle.alf_taps.specs.Spread.{spread_coeff, spread_clip}
use Rattle.alf_taps.proofs.SpreadTaps.{spread_sum}
use Rattle.alf_chroma.specs.Samples.{copy_plus, copy_minus, chroma_copy_sample}
use Rattle.alf_chroma.proofs.kernel.chroma_at.Goals as goal
use Rattle.alf_chroma.proofs.kernel.chroma_at.Goals.{After-chroma_sum}

-- what the sum of taps is, which comes back as bits
summed : (c : After-chroma_sum) → let s = c.args.source.now in let x = c.args.x in
    to_z w32 (of_z w32 c.chroma_sum.result) ≡ tap_sum 6 (get_or s.copy.now (s.starts.here + x + 3) 0) (spread_coeff s.taps.now x)
    (spread_clip s.taps.now x) (copy_plus s.copy.now s.starts x) (copy_minus s.copy.now s.starts x)
summed c = returned w32 c.chroma_sum.type_inv c.chroma_sum.ensures

pub filtered-requires : goal.filtered-requires
filtered-requires c =
    let s = c.args.source.now in
    let reads = c.requires.0 in
    let small = spread_sum s.numbers c.args.x c.requires.1 6 (omega arith) (get_or s.copy.now (s.starts.here + c.args.x + 3) 0)
    (copy_plus s.copy.now s.starts c.args.x) (copy_minus s.copy.now s.starts c.args.x) in
    rw (summed (goal.at.filtered-requires c).After-chroma_sum)
    (reads.samples _ (omega (arith, reads.rise)), omega (arith, small), s.shift_fits, s.depth_fits)

pub returns : goal.returns
unfolding chroma_copy_sample
returns c = simp (summed (goal.at.returns c).After-chroma_sum) at c.filtered.ensures
