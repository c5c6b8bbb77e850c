use Rattle.alf_pieces.proofs.CtbWalks.{passed_none, passed-next}
use Rattle.alf_class_map.proofs.ctbs.class_ctb.Goals as goal

pub loop-at-init : goal.loop-at-init
loop-at-init c =
    let first = c.first_piece.ensures in record {
      stands = first.0;
      classified = λ l ctb of across down. passed_none c.args.axes.now c.first_piece.result _ 4 4 _ _ first.1 first.2;
    }

pub loop-at-preserved : goal.loop-at-preserved
loop-at-preserved c =
    let here = rw c.in-Some.is at c.loop-at.invariant in
    record {
      stands = c.next_piece-at.ensures.0;
      classified = λ l ctb of across down.
          passed-next here.stands _ 4 4 _ c.next_piece-at.ensures.1 _ _ (here.classified l ctb of across down)
          (c.class_piece.ensures l ctb of (across _ here.stands.across.piece) (down _ here.stands.down.piece));
    }
