use Rattle.std.proofs.Common.{◌≡◌, ◌+◌, ◌-◌, ◌*◌, ◌/◌, ◌≤◌, sym, ◌∙◌, arith}
use Rattle.alf_pieces.specs.Pieces.{limit_along}
use Rattle.alf_pieces.proofs.PieceScan.{scan_start, scan_on, scan_stop, scan_done}
use Rattle.alf_pieces.proofs.pieces.piece_end.Goals as goal

pub loop-k-init : goal.loop-k-init
loop-k-init c = scan_start c.requires (omega arith)

pub returns-then-is_some : goal.returns-then-is_some
returns-then-is_some c =
    let left : c.args.x + 4 * c.loop-k.k + 4 ≤ limit_along c.args.axis = omega arith in (
      omega arith,
      omega arith,
      scan_stop c.loop-k.invariant _ _ left (omega arith) (omega arith) c.find_clip.result (c.find_clip.ensures 1)
          (sym c.is_some.ensures ∙ c.if-is_some.true),
    )

pub loop-k-preserved : goal.loop-k-preserved
loop-k-preserved c =
    let left : c.args.x + 4 * c.loop-k.k + 4 ≤ limit_along c.args.axis = omega arith in
    scan_on c.loop-k.invariant _ _ left (omega arith) (omega arith) c.find_clip.result (c.find_clip.ensures 1)
    (sym c.is_some.ensures ∙ c.if-is_some.false)

pub returns : goal.returns
returns c =
    let all : c.loop-k.k ≡ (c.ctb_limit.result - c.args.x) / 4 = omega arith in
    let done = rw all at (scan_done c.loop-k.invariant (omega arith)) in
    (omega (arith, c.requires.upto), omega (arith, c.requires.upto), done)
