-- The clamping of a neighbour to the clip positions of a sample ensures what `ReadPaths` asks, on either side, along either axis, and for a
-- plane of either ratio. Assumes nothing.
use mathlib.Core.Path.{◌≡◌, refl, ap}
use mathlib.Core.Logic.{◌↔◌, ◌≢◌}
use mathlib.Core.Bool.{true}
use mathlib.Core.Option.{Option, some, none}
use Prim.Native.Nat.{ℕ, ◌+◌, ◌/◌, ◌%◌, ◌≤◌, ◌<◌}
use native.Mathlib.Omega.{arith}
use Rattle.alf_spec.specs.declared.ClipCause.{ClipCause}
use Rattle.alf_spec.specs.Geometry.{Side, before, after, Axis, samples, luma_position}
use Rattle.alf_spec.specs.Boundary.{disables, clip_position}
use Rattle.alf_spec.specs.Padding.{lowest, limit, clamped, past_ctb}
use Rattle.alf_spec.proofs.Axes.{not_gt, Regular}
use Rattle.alf_spec.proofs.Ratios.{Ratio, LineFits, own_le, le_own, own_lt, lt_own, Toward, toward_luma}
use Rattle.alf_spec.proofs.IsolatedRegions.Reach.{Reach}
use Rattle.alf_spec.proofs.IsolatedRegions.ClipPositions.{Ends, stops, runs, Near, Stop, bound, bound8, Free, clip_ends}
use Rattle.alf_spec.proofs.IsolatedRegions.PastCtb.{Between, leaves, past}
use Rattle.alf_spec.proofs.IsolatedRegions.ReadPaths.{Guarded}

clear_of : (d : Side) (x b u : ℕ) → Toward d x u → ¬ Between d x b u → (b ≤ x) ↔ (b ≤ u)
clear_of before x b u t f = (λ h. not_gt (λ l. f (h, l)), λ h. omega arith)
clear_of after x b u t f = (λ h. omega arith, λ h. not_gt (λ l. f (l, h)))

-- a clip position stops what would cross a multiple of 8
stopped : (d : Side) (x u e b : ℕ) → Stop d x e → b % 8 ≡ 0 → ¬ Between d x e u → ¬ Between d x b u
stopped before x u e b f q s h = s (omega arith)
stopped after x u e b f q s h = s (omega arith)

near_of : (d : Side) (x u p m : ℕ) → Reach x p → Toward d u p → m % 8 ≡ 0 → Between d x m u → Near d x m
near_of before x u p m r t q h = (h.0, r.before m (omega arith) (omega arith) h.0)
near_of after x u p m r t q h = (h.0, r.after m (omega arith) h.0 (omega arith))

at_most_7 : (d : Side) (x u p : ℕ) → Toward d x u → Toward d u p → Reach x p → (x ≤ u + 7) × (u ≤ x + 7)
at_most_7 before x u p t s r = omega (arith, r.low)
at_most_7 after x u p t s r = omega (arith, r.high)

module _ (a : Axis) (ok : Regular a) (ratio : Ratio a.ratio) (fits : LineFits a.line) (side : Side → ClipCause) (x p : ℕ)
    (in_x : x < samples a) where
  abbrev X : ℕ
  X = luma_position a x

  abbrev P : ℕ
  P = luma_position a p

  abbrev clip : Side → Option ℕ
  clip = clip_position a X side

  -- the sample that stands for the neighbour, but for the corner rule
  abbrev u : ℕ
  u = clamped a clip p

  abbrev U : ℕ
  U = luma_position a u

  lowest-le : {N : Type 0} (o : Option ℕ) → Ends (Stop before X) N o → lowest a o ≤ x
  lowest-le _ (stops f) = own_le a.ratio _ x f.1
  lowest-le _ (runs n) = omega arith

  lt-limit : {N : Type 0} (o : Option ℕ) → Ends (Stop after X) N o → x < limit a o
  lt-limit _ (stops f) = own_lt a.ratio ratio _ x f.0 f.1
  lt-limit _ (runs n) = in_x

  pub low : lowest a (clip before) ≤ x
  low = lowest-le (clip before) (clip_ends a ok X fits side before)

  high : x < limit a (clip after)
  high = lt-limit (clip after) (clip_ends a ok X fits side after)

  -- clamping keeps to the plane and to the clip positions
  pub kept : (lowest a (clip before) ≤ u) × (u < limit a (clip after)) × (u < samples a)
  kept = omega (arith, low, high)

  -- clamping brings the neighbour toward the sample, not past it
  drawn : (d : Side) → Toward d x p → Toward d x u × Toward d u p
  drawn before t = omega (arith, low, high)
  drawn after t = omega (arith, low, high)

  not-passed : (d : Side) (e : ℕ) → Stop d X e → clip d ≡ some e → ¬ Between d X e U
  not-passed before e f q h =
      let l : e / a.ratio ≤ u = rw (← (ap (lowest a) q)) kept.0 in
      let z = le_own a.ratio ratio e u f.0 l in
      omega arith
  not-passed after e f q h =
      let l : u < e / a.ratio = rw (← (ap (limit a) q)) kept.1 in
      let z = lt_own a.ratio e u l in
      omega arith

  module _ (d : Side) (t : Toward d x p) (r : Reach X P) where
    -- a multiple of 8 that is crossed is near, and there is no clip position
    pass : (o : Option ℕ) → clip d ≡ o → Ends (Stop d X) (Free a X side d) o
        → (b : ℕ) → b % 8 ≡ 0 → Between d X b U → Near d X b × (clip d ≡ none) × Free a X side d
    pass _ c (stops f) b q h = absurd (stopped d _ _ _ b f q (not-passed d _ f c) h)
    pass _ c (runs n) b q h = (near_of d _ U P b r (toward_luma a.ratio d u p (drawn d t).1) q h, c, n)

    toward : Toward d X U
    toward = toward_luma a.ratio d x u (drawn d t).0

    short : (X ≤ U + 7) × (U ≤ X + 7)
    short = at_most_7 d X U P toward (toward_luma a.ratio d u p (drawn d t).1) r

    crossing : (b : ℕ) → b % 8 ≡ 0 → Between d X b U → Near d X b × (clip d ≡ none) × Free a X side d
    crossing = pass (clip d) refl (clip_ends a ok X fits side d)

    leaving : X / a.ctb ≢ U / a.ctb → Near d X (bound a d X) × (clip d ≡ none) × Free a X side d
    leaving ne = crossing (bound a d X) (bound8 a ok X d) (leaves a ok d X U toward ne)

    pub guarded : Guarded a (λ d. disables (side d)) d X U
    guarded = record {
      in_picture = lt_own a.ratio a.size u kept.2;
      toward = toward;
      low = short.0;
      high = short.1;
      clear = λ b w. clear_of d X b U toward (λ h.
          let c = crossing b (ok.virtual8 b w) h in
          c.2.0 b w c.0);
      enabled = λ ne. let c = leaving ne in c.2.1 c.0;
    }

    pub crossed : X / a.ctb ≢ U / a.ctb → (clip d ≡ none) × (past_ctb a d x u ≡ true)
    crossed ne = ((leaving ne).1, past a ok ratio x u d (leaves a ok d X U toward ne))
