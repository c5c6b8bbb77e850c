-- A read from a sample of a piece is clamped to the numbers of the piece, in the plane's own samples. Assumes nothing.
use mathlib.Core.Path.{◌≡◌, refl, ap, ◌∙◌}
use mathlib.Core.Logic.{by_cases}
use mathlib.Core.Option.{Option}
use Prim.Native.Nat.{ℕ, pred, ◌+◌, ◌*◌, ◌/◌, ◌%◌, ◌≤◌, ◌<◌, min, max}
use native.Mathlib.Nat.{mul-le-mul_right}
use native.Mathlib.Decide.{dec_le}
use native.Mathlib.Omega.{arith}
use Rattle.alf_spec.specs.Geometry.{Side, before, after, Axis, samples, luma_position}
use Rattle.alf_spec.specs.Padding.{lowest, limit, clamped}
use Rattle.alf_spec.proofs.Axes.{not_gt}
use Rattle.alf_spec.proofs.LineCrossing.{in_plane}
use Rattle.alf_spec.proofs.Ratios.{Ratio, whole, half, own_le, own_lt}
use Rattle.alf_spec.proofs.IsolatedRegions.Reach.{Reach}
use Rattle.alf_pieces.specs.Copies.{held}
use Rattle.alf_pieces.proofs.PieceClips.{Meets, at_end_lem, open_end, far_end}

-- ---- numbers

pub own_is : (r : ℕ) → Ratio r → (u : ℕ) → u * r / r ≡ u
own_is _ whole u = omega arith
own_is _ half u = omega arith

pub own_sum : (r : ℕ) → Ratio r → (b s : ℕ) → b % 2 ≡ 0 → s % 8 ≡ 0 → (b + s) / r ≡ b / r + s / r
own_sum _ whole b s q k = omega arith
own_sum _ half b s q k = omega arith

pub own_most : (r : ℕ) → Ratio r → (b s n : ℕ) → b ≤ s * r + n → b / r ≤ s + n
own_most _ whole b s n h = omega arith
own_most _ half b s n h = omega arith

-- a neighbour that lies past the sample, but not as far
reach_less : (x p u : ℕ) → x ≤ u → u ≤ p → Reach x p → Reach x u
reach_less x p u h k r = record {
  low = omega arith;
  high = omega (arith, r.high);
  before = λ m q l g. absurd (omega arith);
  after = λ m q l g. r.after m q l (omega arith);
}

all_past : (m v w : ℕ) → m ≤ v → m ≤ w → min m v ≡ min m w
all_past m v w h k = omega arith

-- both clamps, where the neighbour is first clamped to the plane and where it is not
held_same : (n l m u : ℕ) → l < m → m ≤ n → min (pred m) (max l (min u (pred n))) ≡ held l m u
held_same n l m u h k =
    by_cases (dec_le u (pred n)) (λ g. let e : min u (pred n) ≡ u = omega arith in rw e refl)
    (λ g. let e : min u (pred n) ≡ pred n = omega arith in rw e (all_past (pred m) (max l (pred n)) (max l u) (omega arith) (omega arith)))

-- ---- the sample x, in luma positions, and its neighbour u

module _ (a : Axis) (ratio : Ratio a.ratio) (x u : ℕ) where
  -- reads before the piece, which begins at s
  low_same : (s : ℕ) (o o' : Option ℕ) → Meets before (luma_position a s) x (luma_position a u) o o' → luma_position a s ≤ x
      → max (lowest a o) u ≡ max (lowest a o') u
  low_same s _ _ at_end_lem h = refl
  low_same s _ _ open_end h = refl
  low_same s _ _ (far_end f) h =
      let l : luma_position a s ≤ luma_position a u = not_gt (λ l. f (h, l)) in
      let k = own_le a.ratio (luma_position a s) u l in
      omega arith

  -- reads after the piece, which ends at hi; w is the neighbour, clamped on the other side
  high_same : (hi w : ℕ) (o o' : Option ℕ) → Meets after hi x (luma_position a u) o o' → hi % 2 ≡ 0 → x < hi → hi / a.ratio ≤ samples a
      → (u < hi / a.ratio → w < hi / a.ratio)
      → min (pred (limit a o)) w ≡ min (pred (limit a o')) w
  high_same hi w _ _ at_end_lem q h k near = refl
  high_same hi w _ _ open_end q h k near = refl
  high_same hi w _ _ (far_end f) q h k near =
      let l : luma_position a u < hi = not_gt (λ l. f (h, omega arith)) in
      let z = near (own_lt a.ratio ratio hi u q l) in
      omega arith

-- ---- the plane's own samples x and u

module _ (a : Axis) (x u : ℕ) where
  pub reach_inside : x < samples a → Reach (luma_position a x) (luma_position a u) → Reach (luma_position a x) (luma_position a (in_plane a u))
  reach_inside low r =
      by_cases (dec_le u (pred (samples a)))
      (λ l. let e : in_plane a u ≡ u = omega arith in rw e r)
      (λ l. reach_less (luma_position a x) (luma_position a u) _ (mul-le-mul_right a.ratio (omega arith))
      (mul-le-mul_right a.ratio (omega arith)) r)

  -- the piece from s to hi, by the clip positions of its first and of its last sample
  pub clamped-same : Ratio a.ratio → (s hi : ℕ) (clip outer : Side → Option ℕ)
      → s ≤ x → luma_position a x < hi → hi % 2 ≡ 0 → lowest a (outer before) ≤ s → hi / a.ratio ≤ limit a (outer after)
      → limit a (outer after) ≤ samples a
      → Meets before (luma_position a s) (luma_position a x) (luma_position a (in_plane a u)) (clip before) (outer before)
      → Meets after hi (luma_position a x) (luma_position a (in_plane a u)) (clip after) (outer after)
      → clamped a clip u ≡ held (lowest a (outer before)) (limit a (outer after)) u
  clamped-same ratio s hi clip outer low high q l h k m m' =
      let in_piece = own_lt a.ratio ratio hi x q high in
      ap (min (pred (limit a (clip after)))) (low_same a ratio (luma_position a x) (in_plane a u) s (clip before) (outer before) m
      (mul-le-mul_right a.ratio low))
      ∙ high_same a ratio (luma_position a x) (in_plane a u) hi (max (lowest a (outer before)) (in_plane a u)) (clip after)
      (outer after) m' q high (omega arith)
      (λ g. less (lowest a (outer before)) (in_plane a u) (hi / a.ratio) (omega arith) g)
      ∙ held_same (samples a) (lowest a (outer before)) (limit a (outer after)) u (omega arith) k
    where
      less : (l v n : ℕ) → l < n → v < n → max l v < n
      less l v n h k = omega arith
