-- Where a piece of a CTB begins and ends, in luma positions: at multiples of 4, with no virtual boundary and no line-buffer boundary
-- between. Assumes nothing.
use mathlib.Core.Path.{◌≡◌, sym, ap, ◌∙◌}
use mathlib.Core.Logic.{◌⊎◌, inl, inr, ⊎_elim, by_cases}
use mathlib.Core.Bool.{true, cond}
use mathlib.Core.List.{Memᴰ}
use mathlib.Core.Option.{Option}
use Prim.Native.Nat.{ℕ, zero, suc, ◌+◌, ◌-◌, ◌*◌, ◌/◌, ◌%◌, ◌≤◌, ◌<◌}
use native.Mathlib.Decide.{dec_le}
use native.Mathlib.Omega.{arith}
use borrow.Author.Tests.{ltb-true}
use Rattle.alf_spec.specs.declared.ClipCause.{ClipCause}
use Rattle.alf_spec.specs.Geometry.{Side, before, after, Axis, has_line}
use Rattle.alf_spec.specs.Boundary.{line_position}
use Rattle.alf_spec.specs.Padding.{is_none}
use Rattle.alf_spec.proofs.Lists.{mem_elem, elem_mem}
use Rattle.alf_spec.proofs.Axes.{Regular, ctb_of_lem}
use Rattle.alf_spec.proofs.Ratios.{LineFits}
use Rattle.alf_spec.proofs.IsolatedRegions.ClipPositions.{Ends, stops, runs, Near, Stop, bound, bound8, Rule, line_rule_lem, virtual_rule}
use Rattle.alf_spec.proofs.IsolatedRegions.ClipPositions.{side_rule, Found, Clear, clip_found}
use Rattle.alf_pieces.specs.Pieces.{WalkLine, ctb_limit, ctb_line, run_end, piece_end, Begins, at_side, at_boundary, at-line}

-- where a piece may end within the CTB at place q: at its line-buffer boundary, at a virtual boundary
abbrev pub Inner : Axis → ℕ → ℕ → Type 0
Inner a q b = ((has_line a ≡ true) × (b ≡ ctb_line a q)) ⊎ Memᴰ b a.virtual_boundaries

-- a piece of the CTB at place q, from lo up to hi
pub record Span (a : Axis) (q lo hi : ℕ) : Type 0 where
  pub from : q * a.ctb ≤ lo
  pub upto : hi ≤ ctb_limit a q
  pub filled : lo < hi
  pub begins : Begins a q lo
  pub whole : (b : ℕ) → Inner a q b → lo < b → hi ≤ b
  pub ends : (hi ≡ ctb_limit a q) ⊎ Inner a q hi

-- ---- the boundaries of a position's CTB, by its place q

abbrev ctb_side : Axis → Side → ℕ → ℕ
ctb_side a before q = q * a.ctb
ctb_side a after q = q * a.ctb + a.ctb

pub bound_at : (a : Axis) (d : Side) (q x : ℕ) → x / a.ctb ≡ q → bound a d x ≡ ctb_side a d q
bound_at a before q x e = ap (λ (p : ℕ). p * a.ctb) e
bound_at a after q x e = ap (λ (p : ℕ). p * a.ctb + a.ctb) e

pub line_at : (a : Axis) (q x : ℕ) → x / a.ctb ≡ q → line_position a x ≡ ctb_line a q
line_at a q x e = ap (λ (p : ℕ). p * a.ctb + (a.ctb - a.line)) e

-- ---- multiples of 4

pub walk_fits : {n : ℕ} → WalkLine n → LineFits n
walk_fits w = (omega (arith, w.0), w.1)

-- e is the first multiple of 4 on that side of x
abbrev pub First : Side → ℕ → ℕ → Type 0
First before x e = (e % 4 ≡ 0) × (e ≤ x) × (x < e + 4)
First after x e = (e % 4 ≡ 0) × (x < e) × (e ≤ x + 4)

-- a clip position is
module _ (a : Axis) (ok : Regular a) (walk : WalkLine a.line) (x : ℕ) where
  line4 : has_line a ≡ true → line_position a x % 8 ≡ 4
  line4 h = omega (arith, ltb-true 0 a.line h, walk.0, walk.1, bound8 a ok x before, ok.ctb8, ok.big)

  pub found_first : {side : Side → ClipCause} (d : Side) (e : ℕ) → Found a x side d e → First d x e
  found_first d e f = by d f.stop f.place
    where
      by : (d : Side) → Stop d x e → ((has_line a ≡ true) × (e ≡ line_position a x)) ⊎ ((e % 8 ≡ 0) × Near d x e) → First d x e
      by before s (inl l) = omega (arith, line4 l.0)
      by after s (inl l) = omega (arith, line4 l.0)
      by before s (inr n) = omega arith
      by after s (inr n) = omega arith

-- of the CTB of a position x
module _ (a : Axis) (ok : Regular a) (walk : WalkLine a.line) (q x : ℕ) (low : q * a.ctb ≤ x) (high : x < ctb_limit a q) where
  side4 : q * a.ctb % 4 ≡ 0
  side4 =
      let here : x < q * a.ctb + a.ctb = omega arith in
      let start8 : q * a.ctb % 8 ≡ 0 = rw (ctb_of_lem a q x low here) at (bound8 a ok x before) in
      omega arith

  inner4 : (b : ℕ) → Inner a q b → b % 4 ≡ 0
  inner4 b (inl l) = omega (arith, l.1, side4, ok.ctb8, ok.big, walk.0, walk.1)
  inner4 b (inr m) = let b8 = ok.virtual8 b m in omega arith

  pub begins4 : (b : ℕ) → Begins a q b → b % 4 ≡ 0
  begins4 b (at_side e) = omega (arith, side4)
  begins4 b (at_boundary e) = inner4 b (inr (elem_mem b a.virtual_boundaries e))
  begins4 b (at-line l e) = inner4 b (inl (l, e))

  pub limit4 : ctb_limit a q % 4 ≡ 0
  limit4 = omega (arith, side4, ok.ctb8, ok.size8)

-- ---- the run of blocks from x on

-- what stands where it ends, at r
record Run (a : Axis) (q x r : ℕ) : Type 0 where
  on : x ≤ r
  moved : (x ≡ ctb_limit a q) ⊎ (x < r)
  most : r ≤ ctb_limit a q
  whole : (b : ℕ) → Inner a q b → x < b → r ≤ b
  ends : (r ≡ ctb_limit a q) ⊎ Inner a q r

module _ (a : Axis) (ok : Regular a) (walk : WalkLine a.line) (side : Side → ClipCause) (q : ℕ) where
  -- a block from x on
  module _ (x : ℕ) (low : q * a.ctb ≤ x) (high : x + 4 ≤ ctb_limit a q) (x4 : x % 4 ≡ 0) where
    place : (x + 3) / a.ctb ≡ q
    place = ctb_of_lem a q (x + 3) (omega arith) (omega arith)

    -- where a rule finds a clip position after its last sample
    stop : (e : ℕ) → e ≡ x + 4 → Rule a (x + 3) side after e → (x + 4 ≡ ctb_limit a q) ⊎ Inner a q (x + 4)
    stop e is (line_rule_lem l at) = inr (inl (l, sym is ∙ at ∙ line_at a q (x + 3) place))
    stop e is (virtual_rule m) = inr (inr (rw (← is) m))
    stop e is (side_rule at _) = let end : e ≡ q * a.ctb + a.ctb = at ∙ bound_at a after q (x + 3) place in inl (omega arith)

    -- where none does, none stands there
    clear : Clear a (x + 3) side after → Inner a q (x + 4) → ⊥
    clear n (inl l) = let at : line_position a (x + 3) ≡ x + 4 = line_at a q (x + 3) place ∙ sym l.1 in n.no_line l.0 (omega arith)
    clear n (inr m) = n.free.0 (x + 4) m (omega arith)

    later : (b : ℕ) → Inner a q b → x < b → x + 4 ≤ b
    later b i h = let b4 = inner4 a ok walk q x low (omega arith) b i in omega arith

    block : (o : Option ℕ) → Ends (Found a (x + 3) side after) (Clear a (x + 3) side after) o → {r : ℕ} → Run a q (x + 4) r
        → Run a q x (cond (is_none o) r (x + 4))
    block _ (stops {e} f) t = record {
      on = omega arith;
      moved = inr (omega arith);
      most = high;
      whole = later;
      ends =
          stop e (omega (arith, found_first a ok walk (x + 3) after e f)) f.rule;
    }
    block _ (runs n) {r} t = record {
      on = omega (arith, t.on);
      moved = inr (omega (arith, t.on));
      most = t.most;
      whole = λ b i h. by_cases (dec_le b (x + 4))
          (λ l. let here : b ≡ x + 4 = omega (arith, later b i h) in absurd (clear n (rw (← here) i)))
          (λ l. t.whole b i (omega arith));
      ends = t.ends;
    }

  run : (n x : ℕ) → q * a.ctb ≤ x → x + 4 * n ≡ ctb_limit a q → x % 4 ≡ 0 → Run a q x (run_end a side n x)
  unfolding run_end
  run zero x low e x4 = record {
    on = omega arith;
    moved = inl (omega arith);
    most = omega arith;
    whole = λ b i h. omega arith;
    ends =
        inl (omega arith);
  }
  run (suc n) x low e x4 =
      block x low (omega arith) x4 _ (clip_found a ok (x + 3) (walk_fits walk) side after)
      (run n (x + 4) (omega arith) (omega arith) (omega arith))

  pub span : (x : ℕ) → x < ctb_limit a q → q * a.ctb ≤ x → Begins a q x → Span a q x (piece_end a side q x)
  unfolding piece_end
  span x high low b =
      let x4 = begins4 a ok walk q x low high x b in
      let all : x + 4 * ((ctb_limit a q - x) / 4) ≡ ctb_limit a q = omega (arith, limit4 a ok walk q x low high) in
      let r = run ((ctb_limit a q - x) / 4) x low all x4 in
      record {
        from = low;
        upto = r.most;
        filled = ⊎_elim (λ (e : x ≡ ctb_limit a q). absurd (omega arith)) (λ h. h) r.moved;
        begins = b;
        whole = r.whole;
        ends = r.ends;
      }

module _ (a : Axis) (ok : Regular a) (walk : WalkLine a.line) (q lo hi : ℕ) (s : Span a q lo hi) where
  inside : lo < ctb_limit a q
  inside = omega (arith, s.filled, s.upto)

  pub start4 : lo % 4 ≡ 0
  start4 = begins4 a ok walk q lo s.from inside lo s.begins

  pub end4 : hi % 4 ≡ 0
  end4 = ⊎_elim (λ (e : hi ≡ ctb_limit a q). rw e (limit4 a ok walk q lo s.from inside))
      (inner4 a ok walk q lo s.from inside hi) s.ends

  -- where it ends within the CTB, another may begin
  pub next-begins : hi < ctb_limit a q → Begins a q hi
  next-begins h = ⊎_elim (λ (e : hi ≡ ctb_limit a q). absurd (omega arith)) (λ i. begin i) s.ends
    where
      begin : Inner a q hi → Begins a q hi
      begin (inl l) = at-line l.0 l.1
      begin (inr m) = at_boundary (mem_elem hi a.virtual_boundaries m)
