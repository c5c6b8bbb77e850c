-- Each filter that the search finds comes with a place farther on, at most 64. Assumes nothing.
use Rattle.std.proofs.Common.{arith, sym}
use Rattle.alf_cross_coeffs.proofs.Searches.{found_farther}
use Rattle.cross_filters.proofs.print_offenders.Goals as goal

pub loop-offender-smaller : goal.loop-offender-smaller
loop-offender-smaller g c =
    let f = found_farther c.args.bank.now c.loop-offender.at (sym c.in-Some.ensures) in omega (arith, f.0, f.1)

pub loop-offender-preserved : goal.loop-offender-preserved
loop-offender-preserved g c = (found_farther c.args.bank.now c.loop-offender.at (sym c.in-Some.ensures)).1
