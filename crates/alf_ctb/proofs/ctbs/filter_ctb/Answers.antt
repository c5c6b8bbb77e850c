use Rattle.alf_pieces.proofs.CtbWalks.{ahead_less, passed_none, passed-next}
use Rattle.alf_ctb.proofs.ctbs.filter_ctb.Goals as goal

pub loop-at-init : goal.loop-at-init
loop-at-init c = record {
  stands = c.first_piece.ensures.0;
  numbers = c.requires.2.spread;
  filtered = λ _ _ _ _ _ _ _ _. passed_none c.args.axes.now c.first_piece.result _ _ _ _ _ c.first_piece.ensures.1 c.first_piece.ensures.2;
}

pub loop-at-smaller : goal.loop-at-smaller
loop-at-smaller c =
    let stands = rw c.in-Some.is at c.loop-at.invariant.stands in
    rw c.in-Some.is (ahead_less stands _ c.requires.3.0.size_high c.next_piece-at.ensures.1)

pub loop-at-preserved : goal.loop-at-preserved
loop-at-preserved c =
    let stands = rw c.in-Some.is at c.loop-at.invariant.stands in
    record {
      stands = c.next_piece-at.ensures.0;
      numbers = c.filter_piece.ensures.1;
      filtered = λ i ctb of same other own across down.
          passed-next stands _ _ _ _ c.next_piece-at.ensures.1 _ _
          (rw c.in-Some.is at (c.loop-at.invariant.filtered i ctb of same other own across down))
          (c.filter_piece.ensures.0 i ctb of same other own (across _ stands.across.piece) (down _ stands.down.piece));
    }
