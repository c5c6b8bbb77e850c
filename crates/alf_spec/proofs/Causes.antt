-- 02, card 1: a side is open exactly where there is no clip position; and where a CTB's side is open, neither tiles nor slices nor
-- subpictures disable filtering across it. Assumes nothing.
use mathlib.Core.Path.{◌≡◌, refl}
use mathlib.Core.Bool.{Bool, true, false, not, ◌&&◌, cond, true≢false}
use mathlib.Core.List.{List, [], ◌∷◌}
use mathlib.Core.Option.{Option, some, none, map}
use Prim.Native.Nat.{ℕ, ◌-◌}
use lib.Dec.{leb, ltb}
use Rattle.alf_spec.specs.declared.Ctb.{Ctb}
use Rattle.alf_spec.specs.declared.Clip.{Clip}
use Rattle.alf_spec.specs.declared.ClipCause.{ClipCause}
use Rattle.alf_spec.specs.declared.ClipCause.TheVariants.{Open, LineBufferBoundary, VirtualBoundary, Tile, Slice, Subpicture}
use Rattle.alf_spec.specs.Input.{Layout}
use Rattle.alf_spec.specs.Geometry.{Side, before, after, Axis, has_line, luma_plane, in_ctb}
use Rattle.alf_spec.specs.Boundary.{disables, tile_disables, slice_disables, subpic_disables, step_cause, only, ◌or_else◌, find, near}
use Rattle.alf_spec.specs.Boundary.{line_position, line_clip, virtual_clip, side_clip, clip, clip_position, cause_of}
use Rattle.alf_spec.specs.Padding.{is_none, column_clip, row_clip}
use Rattle.alf_spec.specs.Causes.{column_cause, row_cause}
use Rattle.alf_spec.proofs.Tests.{both}

-- ---- the side of a CTB

-- an open side: none of the three disables filtering across it
pub not_disabled : (l : Layout) (c n : Ctb) → disables (step_cause l c n) ≡ false
    → (tile_disables l c n ≡ false) × (slice_disables l c n ≡ false) × (subpic_disables l c n ≡ false)
unfolding step_cause
not_disabled l c n = by (tile_disables l c n) (slice_disables l c n) (subpic_disables l c n)
  where
    by : (t s p : Bool) → disables (cond t Tile (cond s Slice (cond p Subpicture Open))) ≡ false → (t ≡ false) × (s ≡ false) × (p ≡ false)
    by false false false h = (refl, refl, refl)
    by true s p h = absurd (true≢false h)
    by false true p h = absurd (true≢false h)
    by false false true h = absurd (true≢false h)

-- ---- the clip positions of a sample

-- what a rule finds has a cause
data Named : Option Clip → Type 0 where
  names : {c : Clip} → disables c.cause ≡ true → Named (some c)
  opens : Named none

named_some : {o : Option Clip} → Named o → disables (cause_of o) ≡ not (is_none (map (λ c. c.position) o))
named_some (names h) = h
named_some opens = refl

only-named : (t : Bool) (k : ClipCause) (e : ℕ) → (t ≡ true → disables k ≡ true) → Named (only t k e)
only-named true k e h = names (h refl)
only-named false k e h = opens

or-named : {o o' : Option Clip} → Named o → Named o' → Named (o or_else o')
or-named (names h) n = names h
or-named opens n = n

find-named : (test : ℕ → Bool) (vs : List ℕ) → Named (find test vs)
unfolding find
find-named test [] = opens
find-named test (v ∷ vs) = or-named (only-named (test v) VirtualBoundary v (λ _. refl)) (find-named test vs)

module _ (a : Axis) (x : ℕ) (side : Side → ClipCause) where
  line-named : (d : Side) → Named (line_clip a x d)
  unfolding line_clip
  line-named before = only-named (has_line a && leb (a.ctb - a.line) (in_ctb a x)) LineBufferBoundary _ (λ _. refl)
  line-named after = only-named (has_line a && near after x (line_position a x)) LineBufferBoundary _ (λ _. refl)

  virtual_named : (d : Side) → Named (virtual_clip a x d)
  unfolding virtual_clip
  virtual_named d = find-named _ a.virtual_boundaries

  side_named : (d : Side) → Named (side_clip a x side d)
  unfolding side_clip
  side_named before = only-named (ltb (in_ctb a x) 3 && disables (side before)) (side before) _ (λ t. (both (ltb (in_ctb a x) 3) _ t).1)
  side_named after = only-named (ltb (a.ctb - in_ctb a x) 5 && disables (side after)) (side after) _
      (λ t. (both (ltb (a.ctb - in_ctb a x) 5) _ t).1)

  clip-named : (d : Side) → Named (clip a x side d)
  unfolding clip
  clip-named before = or-named (line-named before) (or-named (virtual_named before) (side_named before))
  clip-named after = or-named (virtual_named after) (or-named (line-named after) (side_named after))

-- the clip positions that every filter uses
module _ (l : Layout) (x y : ℕ) (d : Side) where
  pub column-named : disables (column_cause l x y d) ≡ not (is_none (column_clip l (luma_plane l) x y d))
  unfolding column_cause column_clip clip_position
  column-named = named_some (clip-named _ _ _ d)

  pub row_named : disables (row_cause l x y d) ≡ not (is_none (row_clip l (luma_plane l) x y d))
  unfolding row_cause row_clip clip_position
  row_named = named_some (clip-named _ _ _ d)
