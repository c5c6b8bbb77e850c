-- 8.8.5.6, ALF sample padding: the sample that stands for a neighbour of a sample. Every filter, and the class window, reads by it.
-- Assumes nothing.
use Rattle.std.specs.Prelude.{Bool, true, false, ◌&&◌, cond, List, ℕ, pred, ◌+◌, ◌/◌, min, max, ltb, get_or}
use Rattle.std.proofs.Math.Option.{Option, some, none}
use Rattle.alf_spec.specs.Input.{Layout}
use Rattle.alf_spec.specs.Geometry.{Side, before, after, Axis, Plane, samples, luma_position, index_of, ctb_start, ctb_at}
use Rattle.alf_spec.specs.Boundary.{column_side, row_side, corner_disabled, clip_position}

-- 01: no edge
abbrev pub is_none : Option ℕ → Bool
is_none none = true
is_none (some e) = false

-- along one axis, in the plane's own samples
module _ (a : Axis) where
  -- (1521) to (1524): where reads begin, the clip position before in the plane's own samples, or 0
  abbrev pub lowest : Option ℕ → ℕ
  lowest none = 0
  lowest (some e) = e / a.ratio

  -- where reads end: the clip position after, or the plane's end
  abbrev pub limit : Option ℕ → ℕ
  limit none = samples a
  limit (some e) = e / a.ratio

  -- a neighbour at p, first clamped to the plane, as (1464) and its like have it, then to the clip positions, the one after less 1, (1525)
  -- to (1528)
  abbrev pub clamped : (Side → Option ℕ) → ℕ → ℕ
  clamped clip p = min (pred (limit (clip after))) (max (lowest (clip before)) (min p (pred (samples a))))

  -- (1517) to (1520): the first and the last sample of x's CTB
  abbrev pub ctb_end : Side → ℕ → ℕ
  ctb_end before x = ctb_start a (luma_position a x) / a.ratio
  ctb_end after x = pred (ctb_start a (luma_position a x) / a.ratio + a.ctb / a.ratio)

  -- p lies before, or after, x's CTB
  abbrev pub past_ctb : Side → ℕ → ℕ → Bool
  past_ctb before x p = ltb p (ctb_end before x)
  past_ctb after x p = ltb (ctb_end after x) p

-- the sample that is filtered: a plane's, at column x and row y
module _ (l : Layout) (g : Plane) (x y : ℕ) where
  -- clipLeftPos and clipRightPos of the sample
  unfoldable pub column_clip : Side → Option ℕ
  column_clip = clip_position g.columns (luma_position g.columns x) (column_side l (ctb_at g x y))

  -- clipTopPos and clipBottomPos of the sample
  unfoldable pub row_clip : Side → Option ℕ
  row_clip = clip_position g.rows (luma_position g.rows y) (row_side l (ctb_at g x y))

  -- its neighbour at column p and row q; a position is never negative, so x − 3 is 0 where x is below 3
  module _ (p q : ℕ) where
    -- its column, clamped
    abbrev pub clamped_column : ℕ
    clamped_column = clamped g.columns column_clip p

    -- its row, clamped
    abbrev pub clamped_row : ℕ
    clamped_row = clamped g.rows row_clip q

    -- 01: where top and left have no edge, the slice switch is off and the upper-left CTB is of another slice, a neighbour left of and
    -- above the CTB; at the lower right, a neighbour right of and below it
    unfoldable pub past_corner : Side → Bool
    past_corner d =
        past_ctb g.columns d x clamped_column
        && (past_ctb g.rows d y clamped_row && (is_none (column_clip d) && (is_none (row_clip d) && corner_disabled l (ctb_at g x y) d)))

    -- it moves to the CTB's first column, or last, same row
    unfoldable pub padded_column : ℕ
    padded_column =
        cond (past_corner before) (ctb_end g.columns before x)
        (cond (past_corner after) (ctb_end g.columns after x)
        clamped_column)

    -- 01: same row
    unfoldable pub padded_row : ℕ
    padded_row = clamped_row

  -- the sample that stands for the neighbour
  unfoldable pub read : List ℕ → ℕ → ℕ → ℕ
  read plane p q = get_or plane (index_of g (padded_column p q) (padded_row p q)) 0
