-- A clip position stands in the sample's block of 8, or at its end, and one of three rules finds it; where there is none, no virtual
-- boundary is near, nor the line-buffer boundary, and the CTB's side, if it is near, is not disabled. Assumes nothing.
use mathlib.Core.Path.{◌≡◌, refl, sym, ap, ◌∙◌}
use mathlib.Core.Logic.{◌⊎◌, inl, inr}
use mathlib.Core.Bool.{Bool, true, false, ◌&&◌, true≢false}
use mathlib.Core.List.Memᴰ
use mathlib.Core.List.{List, [], ◌∷◌, Memᴰ}
use mathlib.Core.Option.{Option, some, none, map}
use Prim.Native.Nat.{ℕ, pred, ◌+◌, ◌-◌, ◌/◌, ◌%◌, ◌≤◌, ◌<◌}
use native.Mathlib.Nat.{mod-eq-zero_of_dvd, dvd_of_mod-eq-zero, dvd-mul_left_of_dvd}
use native.Mathlib.Omega.{arith}
use lib.Dec.{leb, ltb}
use borrow.Author.Tests.{ltb-true, leb-true, lt-ltb, le-leb}
use Rattle.alf_spec.specs.declared.Clip.{Clip}
use Rattle.alf_spec.specs.declared.ClipCause.{ClipCause}
use Rattle.alf_spec.specs.declared.ClipCause.TheVariants.{LineBufferBoundary, VirtualBoundary}
use Rattle.alf_spec.specs.Geometry.{Side, before, after, Axis, has_line, ctb_start, in_ctb}
use Rattle.alf_spec.specs.Boundary.{disables, only, ◌or_else◌, find, near, line_position, line_clip, virtual_clip, side_clip, clip}
use Rattle.alf_spec.specs.Boundary.{clip_position}
use Rattle.alf_spec.proofs.Tests.{both, and_no}
use Rattle.alf_spec.proofs.Axes.{Regular, lower, upper, parts}
use Rattle.alf_spec.proofs.Ratios.{LineFits}

-- ---- options

-- what an option holds, if anything, is a G; if it holds nothing, N
pub data Ends (G : ℕ → Type 0) (N : Type 0) : Option ℕ → Type 0 where
  stops : {e : ℕ} → G e → Ends G N (some e)
  runs : N → Ends G N none

map_ends : {G G' : ℕ → Type 0} {N N' : Type 0} {o : Option ℕ} → ((e : ℕ) → G e → G' e) → (N → N') → Ends G N o → Ends G' N' o
map_ends h f (stops g) = stops (h _ g)
map_ends h f (runs n) = runs (f n)

-- the position of the clip that an option holds, if any, is a G; if it holds none, N
data ClipEnds (G : ℕ → Type 0) (N : Type 0) : Option Clip → Type 0 where
  at : {c : Clip} → G c.position → ClipEnds G N (some c)
  nowhere : N → ClipEnds G N none

position_ends : {G : ℕ → Type 0} {N : Type 0} {o : Option Clip} → ClipEnds G N o → Ends G N (map (λ c. c.position) o)
position_ends (at g) = stops g
position_ends (nowhere n) = runs n

where_none : {G : ℕ → Type 0} {N N' : Type 0} {o : Option Clip} → (N → N') → ClipEnds G N o → ClipEnds G N' o
where_none f (at g) = at g
where_none f (nowhere n) = nowhere (f n)

module _ {G : ℕ → Type 0} where
  or_ends : {N N' : Type 0} {o o' : Option Clip} → ClipEnds G N o → ClipEnds G N' o' → ClipEnds G (N × N') (o or_else o')
  or_ends (at g) k = at g
  or_ends (nowhere n) (at g) = at g
  or_ends (nowhere n) (nowhere n') = nowhere (n, n')

  only_ends : {N : Type 0} (t : Bool) (k : ClipCause) (e : ℕ) → (t ≡ true → G e) → (t ≡ false → N) → ClipEnds G N (only t k e)
  only_ends true k e g n = at (g refl)
  only_ends false k e g n = nowhere (n refl)

  find_ends : (f : ℕ → Bool) (vs : List ℕ) → ((v : ℕ) → Memᴰ v vs → f v ≡ true → G v)
      → ClipEnds G ((v : ℕ) → Memᴰ v vs → f v ≡ false) (find f vs)
  unfolding find
  find_ends f [] g = nowhere (λ v m. absurd (Memᴰ.not-nil m))
  find_ends f (v ∷ vs) g =
      where_none (λ n u m. pick n u (Memᴰ.cases_cons m))
      (or_ends (only_ends (f v) VirtualBoundary v (g v (Memᴰ.head refl)) (λ q. q)) (find_ends f vs (λ u m. g u (Memᴰ.tail m))))
    where
      pick : (f v ≡ false) × ((u : ℕ) → Memᴰ u vs → f u ≡ false) → (u : ℕ) → (u ≡ v) ⊎ Memᴰ u vs → f u ≡ false
      pick n u (inl q) = ap f q ∙ n.0
      pick n u (inr m) = n.1 u m

-- ---- near boundaries

-- what the test `near` tests
abbrev pub Near : Side → ℕ → ℕ → Type 0
Near before x b = (b ≤ x) × (x < b + 3)
Near after x b = (x < b) × (b ≤ x + 4)

-- a test with a limit that is no higher
at_most : (m n k : ℕ) → leb m n ≡ true → n ≤ k → m ≤ k
at_most m n k q h = let l = leb-true m n q in omega arith

pub near_yes : (d : Side) (x b : ℕ) → near d x b ≡ true → Near d x b
near_yes before x b q =
    let h = both (leb b x) _ q in
    let l = leb-true b x h.0 in
    let k = at_most (x - b) _ 2 h.1 (omega arith) in
    omega arith
near_yes after x b q =
    let h = both (ltb x b) _ q in
    let l = ltb-true x b h.0 in
    let k = at_most (b - x) _ 4 h.1 (omega arith) in
    omega arith

yes_near : (d : Side) (x b : ℕ) → Near d x b → near d x b ≡ true
yes_near before x b n = simp (le-leb b x n.0) (le-leb (x - b) _ (omega arith))
yes_near after x b n = simp (lt-ltb x b n.0) (le-leb (b - x) _ (omega arith))

-- e is even and stands on that side of x, and no multiple of 8 stands between the two: the samples from x to e are of one block of 8.
-- Virtual boundaries and the sides of CTBs are multiples of 8, so that what stops at e crosses none of them.
abbrev pub Stop : Side → ℕ → ℕ → Type 0
Stop before x e = (e % 2 ≡ 0) × (e ≤ x) × (e / 8 ≡ x / 8)
Stop after x e = (e % 2 ≡ 0) × (x < e) × (pred e / 8 ≡ x / 8)

near_stop : (d : Side) (x b : ℕ) → b % 8 ≡ 0 → Near d x b → Stop d x b
near_stop before x b q n = omega arith
near_stop after x b q n = omega arith

-- ---- the rules

-- the boundary of x's CTB on that side
abbrev pub bound : Axis → Side → ℕ → ℕ
bound a before x = ctb_start a x
bound a after x = ctb_start a x + a.ctb

-- the side's own test, y < 3 or S − y < 5, with its limit
abbrev side_test : Axis → Side → ℕ → ℕ → Bool
side_test a before x n = ltb (in_ctb a x) n
side_test a after x n = ltb (a.ctb - in_ctb a x) n

abbrev side_limit : Side → ℕ
side_limit before = 3
side_limit after = 5

-- no virtual boundary is near on that side, and if the CTB's side is, it is not disabled
abbrev pub Free : Axis → ℕ → (Side → ClipCause) → Side → Type 0
Free a x side d = ((b : ℕ) → Memᴰ b a.virtual_boundaries → ¬ Near d x b) × (Near d x (bound a d x) → disables (side d) ≡ false)

-- the rule that finds the clip position e of x on that side: the line-buffer boundary, a virtual boundary, or the CTB's side where it is
-- disabled
pub data Rule (a : Axis) (x : ℕ) (side : Side → ClipCause) (d : Side) (e : ℕ) : Type 0 where
  line_rule_lem : has_line a ≡ true → e ≡ line_position a x → Rule a x side d e
  virtual_rule : Memᴰ e a.virtual_boundaries → Rule a x side d e
  side_rule : e ≡ bound a d x → disables (side d) ≡ true → Rule a x side d e

pub record Found (a : Axis) (x : ℕ) (side : Side → ClipCause) (d : Side) (e : ℕ) : Type 0 where
  pub stop : Stop d x e
  pub rule : Rule a x side d e
  -- the line-buffer boundary, or a multiple of 8 that is near
  pub place : ((has_line a ≡ true) × (e ≡ line_position a x)) ⊎ ((e % 8 ≡ 0) × Near d x e)

-- no rule finds one
pub record Clear (a : Axis) (x : ℕ) (side : Side → ClipCause) (d : Side) : Type 0 where
  pub free : Free a x side d
  pub no_line : has_line a ≡ true → ¬ Near d x (line_position a x)

module _ (a : Axis) (ok : Regular a) (x : ℕ) where
  start8 : ctb_start a x % 8 ≡ 0
  start8 = mod-eq-zero_of_dvd 8 (dvd-mul_left_of_dvd _ (dvd_of_mod-eq-zero 8 ok.ctb8) (x / a.ctb))

  pub bound8 : (d : Side) → bound a d x % 8 ≡ 0
  bound8 before = start8
  bound8 after = omega (arith, start8, ok.ctb8)

  pub bound_even : (d : Side) → bound a d x % 2 ≡ 0
  bound_even d = omega (arith, bound8 d)

  side_near : (d : Side) (n : ℕ) → n ≤ side_limit d → side_test a d x n ≡ true → Near d x (bound a d x)
  side_near before n h q = let k = ltb-true (in_ctb a x) n q in omega (arith, lower a x, parts a x)
  side_near after n h q = let k = ltb-true (a.ctb - in_ctb a x) n q in omega (arith, upper a ok x, parts a x)

  near_side : (d : Side) (n : ℕ) → side_limit d ≤ n → Near d x (bound a d x) → side_test a d x n ≡ true
  near_side before n h k = lt-ltb (in_ctb a x) n (omega (arith, parts a x))
  near_side after n h k = lt-ltb (a.ctb - in_ctb a x) n (omega (arith, parts a x))

  module _ (fits : LineFits a.line) (side : Side → ClipCause) where
    line_found : (d : Side) → Stop d x (line_position a x) → has_line a ≡ true → Found a x side d (line_position a x)
    line_found d s h = record { stop = s; rule = line_rule_lem h refl; place = inl (h, refl) }

    near_found : (d : Side) (e : ℕ) → e % 8 ≡ 0 → Near d x e → Rule a x side d e → Found a x side d e
    near_found d e q n r = record { stop = near_stop d x e q n; rule = r; place = inr (q, n) }

    found_line : (d : Side) → ClipEnds (Found a x side d) (has_line a ≡ true → ¬ Near d x (line_position a x)) (line_clip a x d)
    unfolding line_clip
    found_line before = only_ends _ LineBufferBoundary (line_position a x)
        (λ q.
        let h = both (has_line a) (leb (a.ctb - a.line) (in_ctb a x)) q in
        let l = leb-true (a.ctb - a.line) (in_ctb a x) h.1 in
        line_found before (omega (arith, fits.0, fits.1, start8, ok.ctb8, ok.big, upper a ok x, parts a x)) h.0)
        (λ q line n.
        true≢false (sym (le-leb (a.ctb - a.line) (in_ctb a x) (omega (arith, parts a x)))
        ∙ and_no (has_line a) (leb (a.ctb - a.line) (in_ctb a x)) q line))
    found_line after = only_ends _ LineBufferBoundary (line_position a x)
        (λ q.
        let h = both (has_line a) (near after x (line_position a x)) q in
        let n = near_yes after x (line_position a x) h.1 in
        line_found after (omega (arith, fits.0, fits.1, start8, ok.ctb8, ok.big, n, parts a x)) h.0)
        (λ q line n. true≢false (sym (yes_near after x (line_position a x) n) ∙ and_no (has_line a) (near after x (line_position a x)) q line))

    found_virtual : (d : Side)
        → ClipEnds (Found a x side d) ((b : ℕ) → Memᴰ b a.virtual_boundaries → ¬ Near d x b) (virtual_clip a x d)
    unfolding virtual_clip
    found_virtual d =
        where_none (λ far b m n. true≢false (sym (yes_near d x b n) ∙ far b m))
        (find_ends (near d x) a.virtual_boundaries (λ v m q.
        near_found d v (ok.virtual8 v m) (near_yes d x v q) (virtual_rule m)))

    tested_side : (d : Side) (n : ℕ) → n ≤ side_limit d → side_limit d ≤ n
        → ClipEnds (Found a x side d) (Near d x (bound a d x) → disables (side d) ≡ false)
        (only (side_test a d x n && disables (side d)) (side d) (bound a d x))
    tested_side d n h k =
        only_ends (side_test a d x n && disables (side d)) (side d) (bound a d x)
        (λ q.
        let t = both (side_test a d x n) (disables (side d)) q in
        near_found d (bound a d x) (bound8 d) (side_near d n h t.0) (side_rule refl t.1))
        (λ q near. and_no (side_test a d x n) (disables (side d)) q (near_side d n k near))

    found_side : (d : Side) → ClipEnds (Found a x side d) (Near d x (bound a d x) → disables (side d) ≡ false) (side_clip a x side d)
    unfolding side_clip
    found_side before = tested_side before _ (omega arith) (omega arith)
    found_side after = tested_side after _ (omega arith) (omega arith)

    by_rules : (d : Side) → ClipEnds (Found a x side d) (Clear a x side d) (clip a x side d)
    unfolding clip
    by_rules before =
        where_none (λ n. record { free = n.1; no_line = n.0 })
        (or_ends (found_line before) (or_ends (found_virtual before) (found_side before)))
    by_rules after =
        where_none (λ n. record { free = (n.0, n.1.1); no_line = n.1.0 })
        (or_ends (found_virtual after) (or_ends (found_line after) (found_side after)))

    pub clip_found : (d : Side) → Ends (Found a x side d) (Clear a x side d) (clip_position a x side d)
    unfolding clip_position
    clip_found d = position_ends (by_rules d)

    pub clip_ends : (d : Side) → Ends (Stop d x) (Free a x side d) (clip_position a x side d)
    clip_ends d = map_ends (λ e f. f.stop) (λ n. n.free) (clip_found d)
