-- 8.8.5.5, ALF boundary position derivation: the sides of a CTB across which filtering is disabled (01: closed), and the clip positions
-- (01: edges) of a sample, each with its cause (02, card 1). Assumes nothing.
use Rattle.std.specs.Prelude.{Bool, true, false, not, ◌&&◌, cond, List, [], ◌∷◌, ℕ, ◌+◌, ◌-◌, eqb, leb, ltb, get_or}
use Rattle.std.proofs.Math.Option.{Option, some, none, map}
use Rattle.alf_spec.specs.declared.Ctb.{Ctb}
use Rattle.alf_spec.specs.declared.Clip.{Clip}
use Rattle.alf_spec.specs.declared.ClipCause.{ClipCause}
use Rattle.alf_spec.specs.declared.ClipCause.TheVariants.{Open, LineBufferBoundary, VirtualBoundary, Tile, Slice, Subpicture}
use Rattle.alf_spec.specs.Input.{Layout}
use Rattle.alf_spec.specs.Geometry.{Side, before, after, next, has_next, Axis, has_line, ctb_start, in_ctb, ctb_columns, ctb_rows, address}

-- ---- sides

-- (01: closed) filtering across a side with this cause is disabled
abbrev pub disables : ClipCause → Bool
disables Open = false
disables LineBufferBoundary = true
disables VirtualBoundary = true
disables Tile = true
disables Slice = true
disables Subpicture = true

module _ (l : Layout) (c : Ctb) where
  -- the slice of a CTB: 01, one byte per CTB
  unfoldable pub slice_of : ℕ
  slice_of = get_or l.slice_map (address l c) 0

  -- the subpicture of a CTB: 01, a number 0 to 63 per CTB
  unfoldable pub subpic_of : ℕ
  subpic_of = get_or l.subpic_map (address l c) 0

  -- the tile column of a CTB: 01, a tile column number per CTB column
  unfoldable pub tile_column_of : ℕ
  tile_column_of = get_or l.tile_columns c.column 0

  -- the tile row of a CTB: 01, a tile row number per CTB row
  unfoldable pub tile_row_of : ℕ
  tile_row_of = get_or l.tile_rows c.row 0

-- the CTB n lies in another tile, slice or subpicture than c and, respectively, the tile switch, the slice switch or c's own subpicture
-- switch is off
module _ (l : Layout) (c n : Ctb) where
  -- another tile, and the tile switch is off
  unfoldable pub tile_disables : Bool
  tile_disables = not (eqb (tile_column_of l c) (tile_column_of l n) && eqb (tile_row_of l c) (tile_row_of l n)) && not l.picture.across_tiles

  -- another slice, and the slice switch is off
  unfoldable pub slice_disables : Bool
  slice_disables = not (eqb (slice_of l c) (slice_of l n)) && not l.picture.across_slices

  -- another subpicture, and this CTB's own subpicture switch is off
  unfoldable pub subpic_disables : Bool
  subpic_disables = not (eqb (subpic_of l c) (subpic_of l n)) && eqb (get_or l.subpic_across (subpic_of l c) 0) 0

  -- which of these, of which 8.8.5.5 has one or more, or none: "the order is tile, slice, subpicture" (02, card 1)
  unfoldable pub step_cause : ClipCause
  step_cause = cond tile_disables Tile (cond slice_disables Slice (cond subpic_disables Subpicture Open))

-- the CTB left or right of c
abbrev pub beside_ctb : Side → Ctb → Ctb
beside_ctb d c = record { column = next d c.column; row = c.row }

-- the CTB above or below c
abbrev pub stacked_ctb : Side → Ctb → Ctb
stacked_ctb d c = record { column = c.column; row = next d c.row }

-- the CTB up-left or down-right, at ( xCtb − CtbSizeY, yCtb − CtbSizeY ) or ( xCtb + CtbSizeY, yCtb + CtbSizeY )
abbrev pub diagonal_ctb : Side → Ctb → Ctb
diagonal_ctb d c = record { column = next d c.column; row = next d c.row }

-- why filtering across the left or right side of a CTB is disabled, or open; at the picture's rim there is no CTB across
unfoldable pub column_side : Layout → Ctb → Side → ClipCause
column_side l c d = cond (has_next (ctb_columns l) d c.column) (step_cause l c (beside_ctb d c)) Open

-- why filtering across the top or bottom of a CTB is disabled, or open
unfoldable pub row_side : Layout → Ctb → Side → ClipCause
row_side l c d = cond (has_next (ctb_rows l) d c.row) (step_cause l c (stacked_ctb d c)) Open

-- (01: closed) filtering across the left or right side of a CTB is disabled
abbrev pub column_disabled : Layout → Ctb → Side → Bool
column_disabled l c d = disables (column_side l c d)

-- (01: closed) filtering across the top or bottom of a CTB is disabled
abbrev pub row_disabled : Layout → Ctb → Side → Bool
row_disabled l c d = disables (row_side l c d)

-- filtering across the upper left or lower right corner of a CTB is disabled, by slices alone: clipTopLeftFlag, clipBotRightFlag
unfoldable pub corner_disabled : Layout → Ctb → Side → Bool
corner_disabled l c d = has_next (ctb_columns l) d c.column && (has_next (ctb_rows l) d c.row && slice_disables l c (diagonal_ctb d c))

-- ---- clip positions

-- a position and its cause, where the test passes
abbrev pub only : Bool → ClipCause → ℕ → Option Clip
only true k e = some (record { cause = k; position = e })
only false k e = none

-- the first that a rule finds
infixr 2 ◌or_else◌
abbrev pub ◌or_else◌ : Option Clip → Option Clip → Option Clip
◌or_else◌ (some c) o = some c
◌or_else◌ none o = o

-- the first virtual boundary that passes, "for any n" of (1511) to (1514)
unfoldable pub find : (ℕ → Bool) → List ℕ → Option Clip
find test [] = none
find test (v ∷ vs) = only (test v) VirtualBoundary v or_else find test vs

-- a virtual boundary v lies 0 to 2 before x or at it; it lies 1 to 4 after x
abbrev pub near : Side → ℕ → ℕ → Bool
near before x v = leb v x && leb (x - v) 2
near after x v = ltb x v && leb (v - x) 4

-- 01's rules at the position x along an axis, in its words for rows; left and right are the same without the line. `side d` says why
-- filtering across side d of x's CTB is disabled (01: that side is closed), or that it is open.
module _ (a : Axis) (x : ℕ) where
  -- yCtb + CtbSizeY − 2 * scaleHeight: the line lies 4 luma rows above the CTB's bottom, or 2 chroma rows (02, card 4)
  abbrev pub line_position : ℕ
  line_position = ctb_start a x + (a.ctb - a.line)

  -- the line if y − ( CtbSizeY − 2 * scaleHeight ) ≥ 0; the line if it is 1 to 4 luma rows below
  unfoldable pub line_clip : Side → Option Clip
  line_clip before = only (has_line a && leb (a.ctb - a.line) (in_ctb a x)) LineBufferBoundary line_position
  line_clip after = only (has_line a && (ltb x line_position && leb (line_position - x) 4)) LineBufferBoundary line_position

  -- (1511) to (1514): a virtual row 0 to 2 rows above or at the sample; a virtual row 1 to 4 below
  unfoldable pub virtual_clip : Side → Option Clip
  virtual_clip d = find (near d x) a.virtual_boundaries

  -- the CTB top if y < 3 and that side is closed; the CTB bottom if S − y < 5 and that side is closed
  unfoldable pub side_clip : (Side → ClipCause) → Side → Option Clip
  side_clip side before = only (ltb (in_ctb a x) 3 && disables (side before)) (side before) (ctb_start a x)
  side_clip side after = only (ltb (a.ctb - in_ctb a x) 5 && disables (side after)) (side after) (ctb_start a x + a.ctb)

  -- (01: edge) the clip position with its cause, where there is one: "the first that 01 tests counts"
  unfoldable pub clip : (Side → ClipCause) → Side → Option Clip
  clip side before = line_clip before or_else virtual_clip before or_else side_clip side before
  clip side after = virtual_clip after or_else line_clip after or_else side_clip side after

  -- clipTopPos or clipLeftPos, clipBottomPos or clipRightPos
  unfoldable pub clip_position : (Side → ClipCause) → Side → Option ℕ
  clip_position side d = map (λ c. c.position) (clip side d)

-- the cause, and open where there is no clip position
abbrev pub cause_of : Option Clip → ClipCause
cause_of none = Open
cause_of (some c) = c.cause
