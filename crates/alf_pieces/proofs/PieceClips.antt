-- The clip position of a sample of a piece, on one side, is the piece's end there, if the piece's sample at that end has one; where that
-- has one and the sample has none, the end is out of reach. In luma positions. Assumes nothing.
use mathlib.Core.Path.{◌≡◌, sym, ◌∙◌, subst}
use mathlib.Core.Logic.{◌⊎◌, inl, inr, ⊎_elim, by_cases}
use mathlib.Core.Bool.{true, true≢false}
use mathlib.Core.Option.{Option, some, none}
use Prim.Native.Nat.{ℕ, pred, ◌+◌, ◌*◌, ◌/◌, ◌≤◌, ◌<◌}
use native.Mathlib.Decide.{dec_le}
use native.Mathlib.Omega.{arith}
use Rattle.alf_spec.specs.declared.ClipCause.{ClipCause}
use Rattle.alf_spec.specs.Geometry.{Side, before, after, Axis}
use Rattle.alf_spec.specs.Boundary.{clip_position}
use Rattle.alf_spec.specs.Padding.{is_none}
use Rattle.alf_spec.proofs.Lists.{elem_mem}
use Rattle.alf_spec.proofs.Axes.{Regular, ctb_of_lem}
use Rattle.alf_spec.proofs.IsolatedRegions.Reach.{Reach}
use Rattle.alf_spec.proofs.IsolatedRegions.PastCtb.{Between}
use Rattle.alf_spec.proofs.IsolatedRegions.ClipPositions.{Ends, stops, runs, Near, bound, Rule, line_rule_lem, virtual_rule, side_rule, Found}
use Rattle.alf_spec.proofs.IsolatedRegions.ClipPositions.{Clear, clip_found}
use Rattle.alf_pieces.specs.Pieces.{WalkLine, ctb_limit, Begins, at_side, at_boundary, at-line}
use Rattle.alf_pieces.proofs.PieceEnds.{walk_fits, found_first, Inner, Span, bound_at, line_at, start4, end4}

-- the end of a piece on that side
abbrev pub tip : Side → ℕ → ℕ → ℕ
tip before lo hi = lo
tip after lo hi = hi

-- the sample of a piece at its end on that side
abbrev pub tip_sample : Side → ℕ → ℕ → ℕ
tip_sample before lo hi = lo
tip_sample after lo hi = pred hi

last_in : {lo hi : ℕ} → lo < hi → (lo ≤ pred hi) × (pred hi < hi)
last_in h = omega arith

near_last : {lo hi : ℕ} → lo < hi → (pred hi < hi) × (hi ≤ pred hi + 4)
near_last h = omega arith

-- a clip position that is the piece's end b, or none
pub data AtTip (b : ℕ) : Option ℕ → Type 0 where
  cut : AtTip b (some b)
  uncut : AtTip b none

-- the clip positions, on one side, of a sample x of the piece with the end b there, and of the sample at that end, for a neighbour of x at
-- u
pub data Meets (d : Side) (b x u : ℕ) : Option ℕ → Option ℕ → Type 0 where
  at_end_lem : Meets d b x u (some b) (some b)
  open_end : Meets d b x u none none
  far_end : ¬ Between d x b u → Meets d b x u none (some b)

module _ (a : Axis) (ok : Regular a) (walk : WalkLine a.line) (side : Side → ClipCause) (q lo hi : ℕ) (s : Span a q lo hi) where
  -- a sample of the piece
  abbrev Within : ℕ → Type 0
  Within x = (lo ≤ x) × (x < hi)

  place : (x : ℕ) → Within x → x / a.ctb ≡ q
  place x w = ctb_of_lem a q x (omega (arith, s.from)) (omega (arith, s.upto))

  outer_within : (d : Side) → Within (tip_sample d lo hi)
  outer_within before = omega (arith, s.filled)
  outer_within after = last_in s.filled

  -- ---- the rules at its samples

  -- a rule that holds at one sample of the piece holds at each
  same_rule : (d : Side) (e x y : ℕ) → Within x → Within y → Rule a x side d e → Rule a y side d e
  same_rule d e x y w v (line_rule_lem l at) = line_rule_lem l (at ∙ line_at a q x (place x w) ∙ sym (line_at a q y (place y v)))
  same_rule d e x y w v (virtual_rule m) = virtual_rule m
  same_rule d e x y w v (side_rule at t) = side_rule (at ∙ bound_at a d q x (place x w) ∙ sym (bound_at a d q y (place y v))) t

  -- where no rule finds a clip position, none is near
  clash : (d : Side) (b x : ℕ) → Clear a x side d → Near d x b → Rule a x side d b → ⊥
  clash d b x c n (line_rule_lem l e) = c.no_line l (subst (Near d x) e n)
  clash d b x c n (virtual_rule m) = c.free.0 b m n
  clash d b x c n (side_rule e t) = true≢false (sym t ∙ c.free.1 (subst (Near d x) e n))

  module _ (x : ℕ) (w : Within x) where
    inner_outside : (e : ℕ) → Inner a q e → (e ≤ lo) ⊎ (hi ≤ e)
    inner_outside e i = by_cases (dec_le e lo) (λ l. inl l) (λ l. inr (s.whole e i (omega arith)))

    -- a clip position does not lie within the piece
    outside : (d : Side) (e : ℕ) → Rule a x side d e → (e ≤ lo) ⊎ (hi ≤ e)
    outside d e (line_rule_lem l at) = inner_outside e (inl (l, at ∙ line_at a q x (place x w)))
    outside d e (virtual_rule m) = inner_outside e (inr m)
    outside before e (side_rule at _) = inl (omega (arith, at ∙ bound_at a before q x (place x w), s.from))
    outside after e (side_rule at _) = inr (omega (arith, at ∙ bound_at a after q x (place x w), s.upto))

    -- a clip position that is found is the piece's end
    is_tip : (d : Side) (e : ℕ) → Found a x side d e → e ≡ tip d lo hi
    is_tip before e f =
        ⊎_elim (λ l. omega (arith, found_first a ok walk x before e f, start4 a ok walk q lo hi s))
        (λ l. absurd (omega (arith, found_first a ok walk x before e f))) (outside before e f.rule)
    is_tip after e f =
        ⊎_elim (λ l. absurd (omega (arith, found_first a ok walk x after e f)))
        (λ l. omega (arith, found_first a ok walk x after e f, end4 a ok walk q lo hi s)) (outside after e f.rule)

    tip_rule : (d : Side) (e : ℕ) → Found a x side d e → Rule a x side d (tip d lo hi)
    tip_rule d e f = subst (Rule a x side d) (is_tip d e f) f.rule

  -- ---- the sample at an end

  near_outer : (d : Side) → Near d (tip_sample d lo hi) (tip d lo hi)
  near_outer before = omega arith
  near_outer after = near_last s.filled

  pub at_tip : (d : Side) → AtTip (tip d lo hi) (clip_position a (tip_sample d lo hi) side d)
  at_tip d = by _ (clip_found a ok (tip_sample d lo hi) (walk_fits walk) side d)
    where
      by : (o : Option ℕ) → Ends (Found a (tip_sample d lo hi) side d) (Clear a (tip_sample d lo hi) side d) o → AtTip (tip d lo hi) o
      by _ (stops f) = subst (λ (e : ℕ). AtTip (tip d lo hi) (some e)) (sym (is_tip (tip_sample d lo hi) (outer_within d) d _ f)) cut
      by _ (runs n) = uncut

  -- where the sample at an end has no clip position, the piece ends with the CTB, or with the picture
  pub open_bound : (d : Side) → is_none (clip_position a (tip_sample d lo hi) side d) ≡ true → tip d lo hi < a.size
      → tip d lo hi ≡ bound a d lo
  open_bound d none_there in_picture = by _ (clip_found a ok (tip_sample d lo hi) (walk_fits walk) side d) none_there
    where
      start : lo / a.ctb ≡ q
      start = place lo (omega (arith, s.filled))

      no_inner : (d : Side) → Clear a (tip_sample d lo hi) side d → Inner a q (tip d lo hi) → ⊥
      no_inner d n (inl l) =
          clash d (tip d lo hi) (tip_sample d lo hi) n (near_outer d)
          (line_rule_lem l.0 (l.1 ∙ sym (line_at a q _ (place (tip_sample d lo hi) (outer_within d)))))
      no_inner d n (inr m) = clash d (tip d lo hi) (tip_sample d lo hi) n (near_outer d) (virtual_rule m)

      begin : Clear a lo side before → Begins a q lo → lo ≡ bound a before lo
      begin n (at_side e) = e ∙ sym (bound_at a before q lo start)
      begin n (at_boundary m) = absurd (no_inner before n (inr (elem_mem lo a.virtual_boundaries m)))
      begin n (at-line l e) = absurd (no_inner before n (inl (l, e)))

      ended : (d : Side) → tip d lo hi < a.size → Clear a (tip_sample d lo hi) side d → tip d lo hi ≡ bound a d lo
      ended before h n = begin n s.begins
      ended after h n =
          ⊎_elim (λ (e : hi ≡ ctb_limit a q). let end : hi ≡ q * a.ctb + a.ctb = omega arith in end ∙ sym (bound_at a after q lo start))
          (λ i. absurd (no_inner after n i)) s.ends

      by : (o : Option ℕ) → Ends (Found a (tip_sample d lo hi) side d) (Clear a (tip_sample d lo hi) side d) o → is_none o ≡ true
          → tip d lo hi ≡ bound a d lo
      by _ (stops f) e = absurd (true≢false (sym e))
      by _ (runs n) e = ended d in_picture n

  -- ---- a sample x of the piece, and a neighbour of it at u

  module _ (x : ℕ) (w : Within x) (u : ℕ) (r : Reach x u) where
    near_tip : (d : Side) → Between d x (tip d lo hi) u → Near d x (tip d lo hi)
    near_tip before h = (h.0, r.before lo (start4 a ok walk q lo hi s) h.1 h.0)
    near_tip after h = (h.0, r.after hi (end4 a ok walk q lo hi s) h.0 h.1)

    meet : (d : Side) (o o' : Option ℕ) → Ends (Found a x side d) (Clear a x side d) o
        → Ends (Found a (tip_sample d lo hi) side d) (Clear a (tip_sample d lo hi) side d) o' → Meets d (tip d lo hi) x u o o'
    meet d _ _ (stops {e} f) (stops {e = e'} g) =
        let p = is_tip x w d e f in
        let p' = is_tip (tip_sample d lo hi) (outer_within d) d e' g in
        rw (p, p') at_end_lem
    meet d _ _ (stops {e} f) (runs n) =
        absurd (clash d (tip d lo hi) (tip_sample d lo hi) n (near_outer d) (same_rule d _ x _ w (outer_within d) (tip_rule x w d e f)))
    meet d _ _ (runs n) (stops {e} g) =
        let p = is_tip (tip_sample d lo hi) (outer_within d) d e g in
        rw p (far_end (λ h. clash d (tip d lo hi) x n (near_tip d h)
        (same_rule d _ (tip_sample d lo hi) x (outer_within d) w (tip_rule (tip_sample d lo hi) (outer_within d) d e g))))
    meet d _ _ (runs n) (runs m) = open_end

    pub meets : (d : Side) → Meets d (tip d lo hi) x u (clip_position a x side d) (clip_position a (tip_sample d lo hi) side d)
    meets d = meet d _ _ (clip_found a ok x (walk_fits walk) side d) (clip_found a ok (tip_sample d lo hi) (walk_fits walk) side d)
