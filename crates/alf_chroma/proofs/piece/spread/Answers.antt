-- The numbers of one tap more are spread. Assumes nothing.
use Rattle.std.proofs.Common.{pos, get_or}
use Rattle.std.proofs.Math.Facts.{to_z-of_z}
use Rattle.alf_taps.proofs.SpreadTaps.{coefficient_fits, clip_fits}
use Rattle.alf_chroma.proofs.Spreads.{spread_more, numbers_more}
use Rattle.alf_chroma.proofs.piece.spread.Goals as goal

pub loop-j-preserved : goal.loop-j-preserved
loop-j-preserved c =
    let j = c.loop-j.j in
    let filters = c.args.filters.now in
    let l = c.loop-j.invariant in
    let v = c.requires.1 j c.loop-j-test.true in
    let w = c.requires.2 j c.loop-j-test.true in
    let first = simp (to_z-of_z, coefficient_fits (get_or filters j (pos 0)) v) at c.fill.ensures in
    let second = simp (to_z-of_z, clip_fits w) at c.fill-in-loop-j.ensures in
    record {
      spread = spread_more filters j l.numbers c.requires.3 c.loop-j-test.true first second l.spread;
      numbers = numbers_more filters j l.numbers c.requires.3 c.loop-j-test.true first second v w;
    }
