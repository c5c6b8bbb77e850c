-- How a loop over the blocks of a CTB finds where a piece ends. Assumes nothing.
use mathlib.Core.Path.{◌≡◌, refl, sym, ◌∙◌}
use mathlib.Core.Bool.{true, false, cond}
use mathlib.Core.List.{List}
use Rattle.std.specs.Prelude.{Option, Some, None, is_some}
use Rattle.std.proofs.Math.Option.{Option as Found, some, none, get_or}
use Prim.Native.Nat.{ℕ, suc, pred, ◌+◌, ◌-◌, ◌*◌, ◌/◌, ◌≤◌, ◌<◌}
use native.Mathlib.Nat.{mul-one, div-one, div-eq_of_lt-le}
use native.Mathlib.Omega.{arith}
use Rattle.alf_spec.specs.Geometry.{before, after}
use Rattle.alf_spec.specs.Boundary.{clip, clip_position}
use Rattle.alf_spec.specs.Padding.{is_none, lowest, limit}
use Rattle.alf_boundary.specs.declared.clips.CtbAxis.{CtbAxis}
use Rattle.alf_spec.specs.declared.Clip.{Clip}
use Rattle.alf_boundary.specs.Clips.{clip_of, position_of, axis_along, sides_along, InCtb}
use Rattle.alf_pieces.specs.Pieces.{limit_along, BlockAt, run_end, piece_end, piece_at}

-- a position u of the CTB in which a block begins at x, where u does not lie before x
pub in_ctb_lem : {a : CtbAxis} {x : ℕ} (u : ℕ) → BlockAt a x → x ≤ u → u < limit_along a → InCtb a u
in_ctb_lem {a} u b low high =
    let from : a.place * a.ctb ≤ u = omega (arith, b.from) in
    record {
      low = b.low;
      high = b.high;
      line = b.line;
      small = omega (arith, b.size);
      place = sym (div-eq_of_lt-le a.ctb from (omega arith));
    }

-- what reads are clamped to in the luma plane: the clip positions, or the plane's ends
module _ (a : CtbAxis) (list : List ℕ) where
  pub lowest-luma : (o : Found ℕ) → lowest (axis_along a list 1) o ≡ get_or o 0
  lowest-luma none = refl
  lowest-luma (some e) = div-one e

  pub limit-luma : (o : Found ℕ) → limit (axis_along a list 1) o ≡ get_or o a.size
  limit-luma none = div-one a.size
  limit-luma (some e) = div-one e

  -- the piece that begins at x, from the clips before its first sample and after its last
  pub piece_is : {end last low high : ℕ} (x : ℕ) (lower upper : Option Clip)
      → end ≡ piece_end (axis_along a list 1) (sides_along a) a.place x → last ≡ pred end
      → clip_of lower ≡ clip (axis_along a list 1) x (sides_along a) before
      → clip_of upper ≡ clip (axis_along a list 1) last (sides_along a) after
      → low ≡ get_or (position_of lower) 0 → high ≡ get_or (position_of upper) a.size
      → record { start = x; end = end; lowest = low; limit = high } ≡ piece_at (axis_along a list 1) (sides_along a) a.place x
  unfolding piece_at clip_position
  piece_is x lower upper stop at_last below above low high =
      rw (mul-one, div-one, lowest-luma, limit-luma, ← stop, ← at_last, ← below, ← above, low, high)

module _ (a : CtbAxis) (list : List ℕ) where
  -- where the blocks from `end` on lead, of which there are that many in the CTB
  abbrev pub run_from : ℕ → ℕ
  run_from end = run_end (axis_along a list 1) (sides_along a) ((limit_along a - end) / 4) end

  -- where the piece that begins at x ends
  abbrev pub end_from : ℕ → ℕ
  end_from x = piece_end (axis_along a list 1) (sides_along a) a.place x

-- the blocks from `end` on are ahead of the loop that began at x
pub record Scanned (a : CtbAxis) (list : List ℕ) (x end : ℕ) : Type 0 where
  pub from : x ≤ end
  pub upto : end ≤ limit_along a
  pub rest : end_from a list x ≡ run_from a list end

pub scan_start : {a : CtbAxis} {list : List ℕ} {x end : ℕ} → BlockAt a x → end ≡ x → Scanned a list x end
unfolding piece_end
scan_start b e = record { from = omega arith; upto = omega (arith, b.upto); rest = rw e refl }

module _ {a : CtbAxis} {list : List ℕ} {x end : ℕ} (s : Scanned a list x end) where
  -- no whole block is left
  pub scan_done : limit_along a < end + 4 → end ≡ end_from a list x
  unfolding run_end
  scan_done h = let none_left : (limit_along a - end) / 4 ≡ 0 = omega arith in sym (s.rest ∙ rw none_left)

  -- a block, up to its last sample and to the next block, and what stands after that sample
  module _ (last next : ℕ) (h : end + 4 ≤ limit_along a) (at : last ≡ end + 3) (behind : next ≡ end + 4) where
    block : (o : Option Clip) → clip_of o ≡ clip (axis_along a list 1) last (sides_along a) after
        → end_from a list x ≡ cond (is_none (position_of o)) (run_from a list next) next
    unfolding run_end clip_position
    block o found =
        let one_more : (limit_along a - end) / 4 ≡ suc ((limit_along a - (end + 4)) / 4) = omega arith in
        s.rest ∙ rw (one_more, found, at, behind)

    pub scan_on : (o : Option Clip) → clip_of o ≡ clip (axis_along a list 1) last (sides_along a) after → is_some o ≡ false
        → Scanned a list x next
    scan_on None found e = record { from = omega (arith, s.from); upto = omega arith; rest = block None found }
    scan_on (Some c) found e = cc

    pub scan_stop : (o : Option Clip) → clip_of o ≡ clip (axis_along a list 1) last (sides_along a) after → is_some o ≡ true
        → next ≡ end_from a list x
    scan_stop (Some c) found e = sym (block (Some c) found)
    scan_stop None found e = cc
