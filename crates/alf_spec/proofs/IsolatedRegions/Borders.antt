-- What the rules give beside each kind of border, worked out: where a read is moved to, which maps are rejected, which regions are
-- isolated. Assumes nothing.
use mathlib.Core.Path.{◌≡◌, refl}
use mathlib.Core.Bool.{true, false}
use mathlib.Core.List.{List, [], ◌∷◌, map}
use mathlib.Core.Option.{Option, some, none}
use Prim.Native.Nat.{ℕ}
use lib.ListN.{replicate, get_or}
use Rattle.alf_spec.specs.Input.{Layout, picture_of, layout_of, classes}
use Rattle.alf_spec.specs.Geometry.{Side, before, after, luma_plane, chroma_plane}
use Rattle.alf_spec.specs.Padding.{row_clip, padded_column, padded_row}
use Rattle.alf_spec.specs.Classes.{class_window}
use Rattle.alf_spec.specs.Isolation.{open_step, column_step, row_step, diagonal_step, inside, stays_inside, isolated, region_of}
use Rattle.alf_spec.specs.Isolation.{slice_region, tile_region, subpic_region, output_inside}
use Rattle.alf_spec.specs.Faults.{isolation_fault}
use Rattle.alf_spec.proofs.Computed.{computed_result, computed_fault}
use Rattle.alf_spec.proofs.Examples.{picture, layout}
use Rattle.alf_spec.proofs.IsolatedRegions.SmallRegions.{two_subpictures, two_blocks}

-- ---- layouts, each with CTBs of 32

-- the subpictures of `subpictures`, both switches off
abbrev closed : Layout
closed = layout (picture 64 8 5 8 0 1) [] (0 ∷ 0 ∷ []) (0 ∷ []) (0 ∷ 0 ∷ []) (0 ∷ 1 ∷ []) (replicate 64 0)

-- two by two CTBs, 40 by 40 samples, with a slice and a subpicture map; the slice switch is off, all subpicture switches are on
abbrev four : List ℕ → List ℕ → Layout
four slices subpics = layout (picture 40 40 5 8 0 2) [] (0 ∷ 0 ∷ []) (0 ∷ 0 ∷ []) slices subpics (replicate 64 1)

-- the CTB down-right of another slice
abbrev cornered : Layout
cornered = four (0 ∷ 0 ∷ 0 ∷ 1 ∷ []) (replicate 4 0)

-- two CTBs one above the other, 8 by 40 samples, in two slices
abbrev stacked_slices : Layout
stacked_slices = layout (picture 8 40 5 8 0 2) [] (0 ∷ []) (0 ∷ 0 ∷ []) (0 ∷ 1 ∷ []) (0 ∷ 0 ∷ []) (replicate 64 1)

-- in two tiles, with the tile switch off
abbrev stacked_tiles : Layout
stacked_tiles = layout (picture_of 8 40 5 8 0 1 false true) [] (0 ∷ []) (0 ∷ 1 ∷ []) (0 ∷ 0 ∷ []) (0 ∷ 0 ∷ []) (replicate 64 1)

-- two CTBs one below the other in a chroma format, with virtual rows
abbrev formatted : ℕ → List ℕ → Layout
formatted format rows = layout_of (picture 32 64 5 8 format 1) [] rows (0 ∷ []) (0 ∷ 0 ∷ []) (0 ∷ 0 ∷ []) (0 ∷ 0 ∷ []) (replicate 64 1)

-- ---- what is computed

-- the column that is read for the luma sample at column x, row 0, and its neighbour at column p
abbrev column : Layout → ℕ → ℕ → ℕ
column l x p = padded_column l (luma_plane l) x 0 p 0

-- the column that stands at place k of the class window of the block at column 8, beside a virtual boundary there: each sample of row 0 is
-- its column
abbrev window_column : ℕ → ℕ
window_column k = get_or (class_window (two_blocks (8 ∷ [])) (0 ∷ 1 ∷ 2 ∷ 3 ∷ 4 ∷ 5 ∷ 6 ∷ 7 ∷ 8 ∷ 9 ∷ 10 ∷ 11 ∷ 12 ∷ 13 ∷ 14 ∷ 15 ∷ []) 8 0) k 0

-- the clip position above or below row y of chroma
abbrev chroma_clip : Layout → ℕ → Side → Option ℕ
chroma_clip l y d = row_clip l (chroma_plane l) 0 y d

-- the slice map is rejected, or not; the subpicture map
abbrev slices : List ℕ → ℕ
slices m = isolation_fault (four m (replicate 4 0)) (replicate 25 0)

abbrev subpics : List ℕ → ℕ
subpics m = isolation_fault (four (replicate 4 0) m) (replicate 25 0)

-- ---- the claims

-- where a read is moved to
pub reads :
    -- a virtual boundary at 8: 2 before the sample at 10, 4 after the sample at 4
    (column (two_blocks (8 ∷ [])) 10 7 ≡ 8)
    × (column (two_blocks (8 ∷ [])) 4 10 ≡ 7)
    -- a disabled side at 32: the sample at 34 is the last with x < 3 in its CTB, the one at 28 the first with S − x < 5
    × (column closed 34 31 ≡ 32)
    × (column closed 28 34 ≡ 31)
    -- the CTB down-right is of another slice: (32, 32), a neighbour of (31, 31), becomes (31, 32)
    × (padded_column cornered (luma_plane cornered) 31 31 32 32 ≡ 31)
    × (padded_row cornered (luma_plane cornered) 31 31 32 32 ≡ 32)
unfolding computed_result
reads = (refl, refl, refl, refl, refl, refl)

-- the class window reads by the clip positions of its block's first sample: the offsets −3 to −1 are clamped to the boundary
pub window : map window_column (0 ∷ 1 ∷ 2 ∷ 3 ∷ 4 ∷ 9 ∷ []) ≡ 8 ∷ 8 ∷ 8 ∷ 8 ∷ 9 ∷ 14 ∷ []
unfolding computed_result
window = refl

pub clips :
    -- the line lies 2 chroma rows above the CTB's bottom: at 28 in 4:2:0, where chroma row 14 lies, and at 30 in 4:2:2
    (map (λ y. chroma_clip (formatted 1 []) y after) (11 ∷ 12 ∷ []) ≡ none ∷ some 28 ∷ [])
    × (map (λ y. chroma_clip (formatted 1 []) y before) (13 ∷ 14 ∷ []) ≡ none ∷ some 28 ∷ [])
    × (map (λ y. chroma_clip (formatted 2 []) y after) (25 ∷ 26 ∷ []) ≡ none ∷ some 30 ∷ [])
    × (map (λ y. chroma_clip (formatted 2 []) y before) (29 ∷ 30 ∷ []) ≡ none ∷ some 30 ∷ [])
    -- below, a virtual boundary comes before the line: that at 32 is found from row 28 on, though the line at 30 is nearer
    × (map (λ y. chroma_clip (formatted 3 (32 ∷ [])) y after) (27 ∷ 28 ∷ 29 ∷ 30 ∷ []) ≡ some 30 ∷ some 32 ∷ some 32 ∷ some 32 ∷ [])
unfolding computed_result
clips = (refl, refl, refl, refl, refl)

-- the number that a map is given in which one CTB of four differs: b or c is forbidden for slices, any one for subpictures
pub maps :
    (slices (1 ∷ 0 ∷ 0 ∷ 0 ∷ []) ∷ subpics (1 ∷ 0 ∷ 0 ∷ 0 ∷ []) ∷ [] ≡ 0 ∷ 9 ∷ [])
    × (slices (0 ∷ 1 ∷ 0 ∷ 0 ∷ []) ∷ subpics (0 ∷ 1 ∷ 0 ∷ 0 ∷ []) ∷ [] ≡ 8 ∷ 9 ∷ [])
    × (slices (0 ∷ 0 ∷ 1 ∷ 0 ∷ []) ∷ subpics (0 ∷ 0 ∷ 1 ∷ 0 ∷ []) ∷ [] ≡ 8 ∷ 9 ∷ [])
    × (slices (0 ∷ 0 ∷ 0 ∷ 1 ∷ []) ∷ subpics (0 ∷ 0 ∷ 0 ∷ 1 ∷ []) ∷ [] ≡ 0 ∷ 9 ∷ [])
unfolding computed_fault
maps = (refl, refl, refl, refl)

pub regions :
    -- the step down-right into another slice is not open, nor a diagonal step over a disabled side
    (isolated cornered (slice_region cornered 0) ≡ true)
    × (isolated stacked_slices (slice_region stacked_slices 0) ≡ true)
    -- tiles differ by their row too
    × (isolated stacked_tiles (tile_region stacked_tiles 0 0) ≡ true)
    -- the class at entry 7 of a row lies at luma column 28, that at entry 8 at column 32
    × (output_inside classes two_subpictures (subpic_region two_subpictures 0) 7 ≡ true)
    × (output_inside classes two_subpictures (subpic_region two_subpictures 0) 8 ≡ false)
unfolding computed_result computed_fault open_step column_step row_step diagonal_step inside stays_inside isolated region_of slice_region tile_region
    subpic_region output_inside
regions = (refl, refl, refl, refl, refl)
