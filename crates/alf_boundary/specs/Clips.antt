-- Clip positions as code has them. Assumes nothing.
use Rattle.std.specs.Prelude.{◌≡◌, Bool, true, false, List, ℕ, ◌/◌, ◌≤◌, Option, Some, None}
use Rattle.std.proofs.Math.Option.{some, none, map}
use Rattle.std.proofs.Math.Option as math
use Rattle.alf_spec.specs.declared.Clip.{Clip}
use Rattle.alf_spec.specs.declared.ClipCause.{ClipCause}
use Rattle.alf_spec.specs.declared.Grid.{Grid}
use Rattle.alf_spec.specs.declared.Picture.{Picture}
use Rattle.alf_spec.specs.declared.Sides.{Sides}
use Rattle.alf_spec.specs.Geometry.{Side, before, after, Axis, axis_of}
use Rattle.alf_boundary.specs.declared.clips.CtbAxis.{CtbAxis}

-- the clip position and its cause, where there is one
abbrev pub clip_of : Option Clip → math.Option Clip
clip_of (Some c) = some c
clip_of None = none

-- the position alone
abbrev pub position_of : Option Clip → math.Option ℕ
position_of e = map (λ c. c.position) (clip_of e)

-- the side that a flag names
abbrev pub side_of : Bool → Side
side_of false = before
side_of true = after

-- ---- one axis of the picture through one CTB, as code has it

-- the axis of columns through a CTB with the sides s, in the CTB column q: columns have no line
abbrev pub column_axis : Picture → Grid → Sides → ℕ → CtbAxis
column_axis p g s q = record { size = p.width; ctb = g.ctb; line = 0; before = s.left; after = s.right; place = q }

-- the axis of rows, in the CTB row q, with the line so many luma rows above the CTB's bottom
abbrev pub row_axis : Picture → Grid → Sides → ℕ → ℕ → CtbAxis
row_axis p g s line q = record { size = p.height; ctb = g.ctb; line = line; before = s.top; after = s.bottom; place = q }

-- the axis of a plane with this ratio to luma that goes through that CTB, with these virtual boundaries
abbrev pub axis_along : CtbAxis → List ℕ → ℕ → Axis
axis_along a virtual_boundaries ratio = axis_of a.size a.ctb virtual_boundaries a.line ratio

-- the causes at the CTB's sides
abbrev pub sides_along : CtbAxis → Side → ClipCause
sides_along a before = a.before
sides_along a after = a.after

-- a CTB's size and a position, as small as 32-bit sums need
abbrev pub Bounded : ℕ → ℕ → Type 0
Bounded ctb x = (4 ≤ ctb) × (ctb ≤ 128) × (x ≤ 65535)

-- x is a position of the axis's CTB, and all numbers are as small as 32-bit sums need
pub record InCtb (a : CtbAxis) (x : ℕ) : Type 0 where
  pub low : 4 ≤ a.ctb
  pub high : a.ctb ≤ 128
  pub line : a.line ≤ 4
  pub small : x ≤ 65535
  pub place : a.place ≡ x / a.ctb
