-- 2^(depth − 1) is between 1 and 2048.
use Rattle.std.proofs.Common.{◌-◌, ◌≤◌, arith}
use lib.Pow.{pow_pos, pow_mono}
use Rattle.alf_math.proofs.Grids.{shifted}
use Rattle.alf_math.proofs.clipping.half_levels.Goals as goal

pub returns : goal.returns
returns c =
    let d = c.args.depth - 1 in
    let few : d ≤ 11 = omega arith in
    rw (shifted d 32 (omega arith)) (omega (arith, pow_pos d, pow_mono few))
