-- What a piece of a CTB says of the samples in it, along one axis: the reads of `alf_spec` are clamped to the piece's own numbers. Assumes
-- nothing.
use mathlib.Core.Path.{◌≡◌, refl, sym, ap, ◌∙◌, subst}
use mathlib.Core.Bool.{Bool, true, false, ◌&&◌, true≢false}
use mathlib.Core.Option.{Option, some}
use Prim.Native.Nat.{ℕ, pred, ◌*◌, ◌/◌, ◌%◌, ◌≤◌, ◌<◌}
use native.Mathlib.Nat.{mul-le-mul_right}
use native.Mathlib.Omega.{arith}
use lib.Dec.{leb, ltb}
use borrow.Author.Tests.{ltb-true, leb-true, lt-ltb, le-ltb, le-leb, lt-leb}
use Rattle.alf_spec.specs.declared.ClipCause.{ClipCause}
use Rattle.alf_spec.specs.Geometry.{Side, before, after, Axis, samples, luma_position, ctb_start}
use Rattle.alf_spec.specs.Boundary.{clip_position}
use Rattle.alf_spec.specs.Padding.{is_none, lowest, limit, clamped, ctb_end, past_ctb}
use Rattle.alf_spec.proofs.Tests.{both, same_test}
use Rattle.alf_spec.proofs.Axes.{Regular, ctb_of_lem}
use Rattle.alf_spec.proofs.LineCrossing.{in_plane}
use Rattle.alf_spec.proofs.Ratios.{Ratio, own_le, le_own, own_lt, lt_own, boundary}
use Rattle.alf_spec.proofs.IsolatedRegions.Reach.{Reach}
use Rattle.alf_spec.proofs.IsolatedRegions.ClipPositions.{bound, bound_even}
use Rattle.alf_spec.proofs.IsolatedRegions.PastCtb.{past as past-ctb, beyond}
use Rattle.alf_pieces.specs.declared.pieces.Piece.{Piece}
use Rattle.alf_pieces.specs.Pieces.{WalkLine, ctb_limit, piece_end, piece_at, Begins, PieceOf, PieceIn}
use Rattle.alf_pieces.specs.Copies.{held}
use Rattle.alf_pieces.proofs.PieceEnds.{Span, bound_at, span, start4, end4, next-begins}
use Rattle.alf_pieces.proofs.PieceClips.{tip, tip_sample, AtTip, cut, uncut, at_tip, open_bound, Meets, at_end_lem, open_end, far_end}
use Rattle.alf_pieces.proofs.PieceClips.{meets}
use Rattle.alf_pieces.proofs.PieceReads.{own_is, own_sum, own_most, reach_inside, clamped-same}

-- u lies past the piece on that side
abbrev pub past_piece : Side → Piece → ℕ → Bool
past_piece before p u = ltb u p.start
past_piece after p u = leb p.end u

-- the sample of a piece at its end on that side, in the plane's own samples
abbrev pub outer : Side → Piece → ℕ
outer before p = p.start
outer after p = pred p.end

-- x is a sample of the piece, and u a neighbour in reach of it
pub record InPiece (a : Axis) (p : Piece) (x u : ℕ) : Type 0 where
  pub low : p.start ≤ x
  pub high : x < p.end
  pub reach : Reach (luma_position a x) (luma_position a u)

-- what the proofs of copies and kernels use of a piece
pub record Facts (a : Axis) (side : Side → ClipCause) (q : ℕ) (p : Piece) : Type 0 where
  -- its numbers
  pub numbers : PieceIn (samples a) p
  -- it lies in the CTB at place q, and begins and ends at multiples of 4 luma samples
  pub from : q * a.ctb ≤ luma_position a p.start
  pub upto : luma_position a p.end ≤ ctb_limit a q
  pub start4 : luma_position a p.start % 4 ≡ 0
  pub end4 : luma_position a p.end % 4 ≡ 0
  -- where it ends within the CTB, another may begin
  pub next : luma_position a p.end < ctb_limit a q → Begins a q (luma_position a p.end)
  -- a read from a sample of it is clamped to the piece's numbers
  pub reads : (x u : ℕ) → InPiece a p x u → clamped a (clip_position a (luma_position a x) side) u ≡ held p.lowest p.limit u
  -- a read past the CTB with no clip position between is a read past the piece
  pub past : (x u : ℕ) → InPiece a p x u → (d : Side)
      → (past_ctb a d x (held p.lowest p.limit u) && is_none (clip_position a (luma_position a x) side d)) ≡ past_piece d p
      (held p.lowest p.limit u)
  -- where a read goes past the piece on a side, the CTB ends there with the piece's last sample
  pub edge : (x u : ℕ) → InPiece a p x u → (d : Side) → past_piece d p (held p.lowest p.limit u) ≡ true → ctb_end a d x ≡ outer d p

-- ---- past an end

-- reads stop at the piece's end on that side
abbrev Closed : Side → Piece → Type 0
Closed before p = p.lowest ≡ p.start
Closed after p = p.limit ≡ p.end

-- no read goes past the piece where reads stop at its end
kept : (n : ℕ) (p : Piece) → PieceIn n p → (d : Side) → Closed d p → (u : ℕ) → past_piece d p (held p.lowest p.limit u) ≡ false
kept n p i before c u = le-ltb (held p.lowest p.limit u) p.start (omega (arith, i.filled, i.high))
kept n p i after c u = lt-leb p.end (held p.lowest p.limit u) (omega (arith, i.filled))

module _ (a : Axis) (ok : Regular a) (walk : WalkLine a.line) (ratio : Ratio a.ratio) (side : Side → ClipCause) (q s : ℕ)
    (part : Span a q (luma_position a s) (piece_end a side q (luma_position a s))) where
  abbrev lo : ℕ
  lo = luma_position a s

  abbrev hi : ℕ
  hi = piece_end a side q lo

  abbrev p : Piece
  p = piece_at a side q s

  -- the clip position of the piece's sample at its end on that side
  abbrev outer_clip : Side → Option ℕ
  outer_clip d = clip_position a (tip_sample d lo hi) side d

  -- its ends are whole samples of the plane
  start_even : lo % 2 ≡ 0
  start_even = omega (arith, start4 a ok walk q lo hi part)

  end_even : hi % 2 ≡ 0
  end_even = omega (arith, end4 a ok walk q lo hi part)

  most : hi / a.ratio ≤ samples a
  most = let even : a.size % 2 ≡ 0 = omega (arith, ok.size8) in
      own_le a.ratio hi (samples a) (omega (arith, part.upto, boundary a.ratio ratio a.size even))

  lowest-le : {o : Option ℕ} → AtTip lo o → lowest a o ≤ s
  lowest-le cut = own_le a.ratio lo s (omega arith)
  lowest-le uncut = omega arith

  limit_in : {o : Option ℕ} → AtTip hi o → (hi / a.ratio ≤ limit a o) × (limit a o ≤ samples a)
  limit_in cut = (omega arith, most)
  limit_in uncut = (most, omega arith)

  numbers : a.ctb ≤ 128 → PieceIn (samples a) p
  unfolding piece_at
  numbers small =
      let at-limit = limit_in (at_tip a ok walk side q lo hi part after) in
      record {
        low = lowest-le (at_tip a ok walk side q lo hi part before);
        filled = own_lt a.ratio ratio hi s end_even part.filled;
        high = at-limit.0;
        inside = at-limit.1;
        small = own_most a.ratio ratio hi s 128 (omega (arith, part.upto, part.from));
      }

  end_luma : luma_position a p.end ≡ hi
  unfolding piece_at
  end_luma = boundary a.ratio ratio hi end_even

  closed : (d : Side) → outer_clip d ≡ some (tip d lo hi) → Closed d p
  unfolding piece_at
  closed before e = ap (lowest a) e ∙ own_is a.ratio ratio s
  closed after e = ap (limit a) e

  -- the sample x of the piece, and its neighbour u
  module _ (n : PieceIn (samples a) p) (x u : ℕ) (h : InPiece a p x u) where
    abbrev X : ℕ
    X = luma_position a x

    low : lo ≤ X
    unfolding piece_at
    low = mul-le-mul_right a.ratio h.low

    high : X < hi
    unfolding piece_at
    high = lt_own a.ratio hi x h.high

    place : X / a.ctb ≡ q
    place = ctb_of_lem a q X (omega (arith, part.from, low)) (omega (arith, part.upto, high))

    start_is : ctb_start a X ≡ q * a.ctb
    start_is = ap (λ (m : ℕ). m * a.ctb) place

    below : x < samples a
    below = omega (arith, h.high, n.high, n.inside)

    met : (d : Side) → Meets d (tip d lo hi) X (luma_position a (in_plane a u)) (clip_position a X side d) (outer_clip d)
    met = meets a ok walk side q lo hi part X (low, high) (luma_position a (in_plane a u)) (reach_inside a x u below h.reach)

    reads : clamped a (clip_position a X side) u ≡ held p.lowest p.limit u
    unfolding piece_at
    reads =
        clamped-same a x u ratio s hi (clip_position a X side) outer_clip h.low high end_even
        n.low n.high n.inside (met before) (met after)

    -- ---- past the piece, and past the CTB

    from-ctb : (d : Side) (v : ℕ) → past_ctb a d x v ≡ true → past_piece d p v ≡ true
    unfolding piece_at
    from-ctb before v t =
        let l : luma_position a v < lo = omega (arith, start_is, beyond a ok ratio x v before t, part.from) in
        lt-ltb v s (rw (own_is a.ratio ratio s) at (own_lt a.ratio ratio lo v start_even l))
    from-ctb after v t =
        le-leb (hi / a.ratio) v (own_le a.ratio hi v (omega (arith, start_is, beyond a ok ratio x v after t, part.upto)))

    to_ctb : (d : Side) (v : ℕ) → tip d lo hi ≡ bound a d X → past_piece d p v ≡ true → past_ctb a d x v ≡ true
    unfolding piece_at
    to_ctb before v e t =
        let l : v < lo / a.ratio = rw (own_is a.ratio ratio s) (ltb-true v s t) in
        past-ctb a ok ratio x v before (omega (arith, low, lt_own a.ratio lo v l))
    to_ctb after v e t =
        let l = le_own a.ratio ratio hi v end_even (leb-true (hi / a.ratio) v t) in
        past-ctb a ok ratio x v after (omega (arith, high))

    -- the neighbour, clamped
    abbrev v : ℕ
    v = held p.lowest p.limit u

    not_cut : (d : Side) → past_piece d p v ≡ true → is_none (outer_clip d) ≡ true
    not_cut d t = by (outer_clip d) refl (at_tip a ok walk side q lo hi part d)
      where
        by : (o : Option ℕ) → outer_clip d ≡ o → AtTip (tip d lo hi) o → is_none o ≡ true
        by _ e cut = absurd (true≢false (sym t ∙ kept (samples a) p n d (closed d e) u))
        by _ e uncut = refl

    -- nothing in the plane lies past its end
    in_picture_lem : (d : Side) → past_piece d p v ≡ true → tip d lo hi < a.size
    unfolding piece_at
    in_picture_lem before t = omega (arith, part.filled, part.upto)
    in_picture_lem after t =
        let past = leb-true (hi / a.ratio) v t in
        let in_plane_lem : hi / a.ratio < samples a = omega (arith, n.inside, n.low, n.filled, n.high) in
        omega (arith, lt_own a.ratio a.size (hi / a.ratio) in_plane_lem, boundary a.ratio ratio hi end_even)

    at_bound : (d : Side) → past_piece d p v ≡ true → tip d lo hi ≡ bound a d X
    at_bound d t =
        let start-place = ctb_of_lem a q lo part.from (omega (arith, part.filled, part.upto)) in
        open_bound a ok walk side q lo hi part d (not_cut d t) (in_picture_lem d t) ∙ bound_at a d q lo start-place
        ∙ sym (bound_at a d q X place)

    no_clip : (d : Side) (o o' : Option ℕ) → Meets d (tip d lo hi) X (luma_position a (in_plane a u)) o o' → is_none o' ≡ true
        → is_none o ≡ true
    no_clip d _ _ at_end_lem q = q
    no_clip d _ _ open_end q = refl
    no_clip d _ _ (far_end f) q = refl

    past : (d : Side) → (past_ctb a d x v && is_none (clip_position a X side d)) ≡ past_piece d p v
    past d =
        same_test _ _ (λ t. from-ctb d v (both (past_ctb a d x v) _ t).0)
        (λ t. simp (to_ctb d v (at_bound d t) t, no_clip d _ _ (met d) (not_cut d t)))

    edge : (d : Side) → past_piece d p v ≡ true → ctb_end a d x ≡ outer d p
    unfolding piece_at
    edge before t = rw (← (at_bound before t)) (own_is a.ratio ratio s)
    edge after t =
        let sum = own_sum a.ratio ratio (ctb_start a X) a.ctb (bound_even a ok X before) ok.ctb8 in
        ap pred (sym sum ∙ ap (λ (m : ℕ). m / a.ratio) (sym (at_bound after t)))

  facts : a.ctb ≤ 128 → Facts a side q p
  unfolding piece_at
  facts small = record {
    numbers = numbers small;
    from = part.from;
    upto = rw end_luma part.upto;
    start4 = start4 a ok walk q lo hi part;
    end4 = rw end_luma (end4 a ok walk q lo hi part);
    next = rw end_luma (next-begins a ok walk q lo hi part);
    reads = λ x u h. reads (numbers small) x u h;
    past = λ x u h. past (numbers small) x u h;
    edge = λ x u h. edge (numbers small) x u h;
  }

pub piece_facts : (a : Axis) → Regular a → WalkLine a.line → Ratio a.ratio → a.ctb ≤ 128
    → (side : Side → ClipCause) (q : ℕ) (p : Piece)
    → PieceOf a side q p → Facts a side q p
piece_facts a ok walk ratio small side q p h =
    let part = span a ok walk side q (luma_position a p.start) h.upto h.from h.begins in
    subst (Facts a side q) (sym h.is) (facts a ok walk ratio side q p.start part small)
