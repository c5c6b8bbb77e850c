-- 02, card 1: the causes at the four sides of a luma sample. They are those of the clip positions by which every filter reads: `column_clip`
-- and `row_clip` of Padding are the positions. Assumes nothing.
use Rattle.std.specs.Prelude.{ℕ}
use Rattle.alf_spec.specs.declared.ClipCause.{ClipCause}
use Rattle.alf_spec.specs.declared.SideCauses.{SideCauses}
use Rattle.alf_spec.specs.Input.{Layout}
use Rattle.alf_spec.specs.Geometry.{Side, before, after, luma_plane, luma_position, ctb_at}
use Rattle.alf_spec.specs.Boundary.{column_side, row_side, clip, cause_of}

-- the luma sample at column x and row y
module _ (l : Layout) (x y : ℕ) where
  -- left or right of it
  unfoldable pub column_cause : Side → ClipCause
  column_cause d = cause_of (clip (luma_plane l).columns (luma_position (luma_plane l).columns x) (column_side l (ctb_at (luma_plane l) x y)) d)

  -- above or below it
  unfoldable pub row_cause : Side → ClipCause
  row_cause d = cause_of (clip (luma_plane l).rows (luma_position (luma_plane l).rows y) (row_side l (ctb_at (luma_plane l) x y)) d)

  -- all four
  unfoldable pub causes_at : SideCauses
  causes_at = record { top = row_cause before; bottom = row_cause after; left = column_cause before; right = column_cause after }
