-- A filtered sample of a piece, from the piece's copy, is that of the picture. Assumes nothing.
use mathlib.Core.Path.{◌≡◌, refl, ap, ◌∙◌}
use mathlib.Core.Bool.{true}
use mathlib.Core.List.{List, [], ◌∷◌, map}
use Prim.Native.Nat.{ℕ, ◌+◌, ◌-◌, ◌*◌, ◌/◌, ◌%◌, ◌≤◌, ◌<◌}
use native.Mathlib.Omega.{arith}
use lib.IntN.{ℤ}
use lib.ListN.{length, get_or}
use Rattle.alf_spec.specs.declared.ChromaRows.{ChromaRows}
use Rattle.alf_spec.specs.declared.Ctb.{Ctb}
use Rattle.alf_spec.specs.declared.Grid.{Grid}
use Rattle.alf_spec.specs.declared.Picture.{Picture}
use Rattle.alf_spec.specs.declared.Sides.{Sides}
use Rattle.alf_spec.specs.Lists.{painted}
use Rattle.alf_spec.specs.Input.{Layout, Input}
use Rattle.alf_spec.specs.Geometry.{sub_width, sub_height, plane_of, chroma_plane, samples, ctb_at, line_rule, bottom_distance}
use Rattle.alf_spec.specs.Boundary.{column_side, row_side}
use Rattle.alf_spec.specs.Arithmetic.{filtered}
use Rattle.alf_spec.specs.Chroma.{chroma_plus, chroma_minus, chroma_rows_at, chroma_read, chroma_with, chroma_sample}
use Rattle.alf_spec.specs.Process.{at_index}
use Rattle.alf_spec.proofs.Axes.{Regular}
use Rattle.alf_spec.proofs.LineCrossing.{chroma-read}
use Rattle.alf_spec.proofs.Ratios.{chroma_ratios}
use Rattle.alf_spec.proofs.IsolatedRegions.TapPositions.{ChromaOffsets, chroma_offsets}
use Rattle.alf_math.specs.Grids.{GridOf}
use Rattle.alf_pieces.specs.declared.pieces.Piece.{Piece}
use Rattle.alf_lists.specs.Regions.{between, in_rect}
use Rattle.alf_pieces.specs.Pieces.{PieceOf, CtbOf}
use Rattle.alf_pieces.specs.Copies.{extent, pitch, copy_length, copy_at}
use Rattle.alf_lists.proofs.Regions.{InRect, rect_facts}
use Rattle.alf_pieces.proofs.CtbPieces.{regular_down, column_facts, row_facts}
use Rattle.alf_pieces.proofs.PieceWalk.{walk_none}
use Rattle.alf_pieces.proofs.CopyReads.{own_ctb}
use Rattle.alf_pieces.proofs.CopyHolds.{copy_holds}
use Rattle.alf_pieces.proofs.CopySamples.{chroma_in}
use Rattle.alf_taps.proofs.SpreadTaps.{taps_same}
use Rattle.alf_chroma.specs.Samples.{copy_plus, copy_minus, chroma_copy_sample, chroma_starts_of, piece_sample}
use Rattle.alf_chroma.specs.declared.kernel.ChromaStarts.{ChromaStarts}
use Rattle.alf_params.specs.Filters.{ChromaFilter}
use Rattle.alf_chroma.specs.Pieces.{Spread, unlined_plane, copy_chroma_at}
use Rattle.alf_chroma.proofs.PieceRows.{row_bounds}

-- the columns of the plane, as code has them
pub columns-wide : (l : Layout) {p : Picture} {ratio : ℕ} → l.picture ≡ p → ratio ≡ sub_width p
    → samples (chroma_plane l).columns ≡ p.width / ratio
unfolding plane_of
columns-wide l e r = rw (e, r)

-- an input, a piece of a CTB of it, and the piece's copy
module _ (i : Input) {p : Picture} {c : Ctb} {s : Sides} (ctb : CtbOf i.layout p c s) {columns rows : Piece}
    (across : PieceOf (unlined_plane i.layout).columns (column_side i.layout c) c.column columns)
    (down : PieceOf (unlined_plane i.layout).rows (row_side i.layout c) c.row rows)
    (copy copy0 : List ℕ) {width : ℕ} (wide : samples (chroma_plane i.layout).columns ≡ width)
    (copies : copy ≡ painted copy0 (between 0 (copy_length columns rows)) (copy_at columns rows s i.chroma width))
    (room : copy_length columns rows ≤ length copy0) (component : ℕ) where
  -- a sample of the piece
  module _ (x y : ℕ) (left : columns.start ≤ x) (right : x < columns.end) (top : rows.start ≤ y) (bottom : y < rows.end) where
    -- its column in the piece, and its row
    abbrev column : ℕ
    column = x - columns.start

    abbrev row : ℕ
    row = y - rows.start

    -- it lies in the plane
    in_plane_lem : y < samples (chroma_plane i.layout).rows
    unfolding plane_of
    in_plane_lem =
        let l = i.layout in
        let numbers = (row_facts ctb (sub_width l.picture) (sub_height l.picture) 0
        (chroma_ratios l.picture).1 walk_none down).numbers in
        omega (arith, numbers.high, numbers.inside)

    regular : Regular (chroma_plane i.layout).rows
    regular = regular_down ctb (sub_width i.layout.picture) (sub_height i.layout.picture) (2 * sub_height i.layout.picture)

    -- the sample's neighbour at (u, v), which stands in row j of the copy, m - 3 columns from the sample's own
    neighbour : (u v m j : ℕ) → (1 ≤ m) × (m ≤ 5) × (row + 1 ≤ j) × (j ≤ row + 5) × (u ≡ x + m - 3) × (v ≡ rows.start + j - 3)
        → y ≤ v + (chroma_rows_at i component x y).y2 → v ≤ y + (chroma_rows_at i component x y).y2
        → chroma_read i component x y (u, v) ≡ get_or copy (j * pitch columns + column + m) 0
    unfolding plane_of
    neighbour u v m j h low high =
        let l = i.layout in
        let ratios = chroma_ratios l.picture in
        chroma-read i regular component x y in_plane_lem u v low high
        ∙ copy_holds ctb (sub_width l.picture) (sub_height l.picture) 0 ratios.0 ratios.1 walk_none across down
        i.chroma copy copy0 wide copies room
        x y u v (column + m) j
        (chroma_in (unlined_plane l).columns columns x u ratios.0 left right (omega arith) (omega arith))
        (chroma_in (unlined_plane l).rows rows y v ratios.1 top bottom (omega arith) (omega arith))
        (omega arith) (omega arith) (omega arith) (omega arith)
        ∙ ap (λ (k : ℕ). get_or copy k 0) (omega arith)

    -- it lies in the CTB c
    own : ctb_at (chroma_plane i.layout) x y ≡ c
    unfolding plane_of
    own =
        let l = i.layout in
        let ratios = chroma_ratios l.picture in
        own_ctb l c s ctb.sides (sub_width l.picture) (sub_height l.picture) 0 columns rows
        (column_facts ctb (sub_width l.picture) (sub_height l.picture) 0 ratios.0 across)
        (row_facts ctb (sub_width l.picture) (sub_height l.picture) 0 ratios.1 walk_none down) x y x y
        (chroma_in (unlined_plane l).columns columns x x ratios.0 left right (omega arith) (omega arith))
        (chroma_in (unlined_plane l).rows rows y y ratios.1 top bottom (omega arith) (omega arith))

    -- with the rows of Table 46
    module _ (r : ChromaRows) (near : ChromaOffsets r) (order : r.y1 ≤ r.y2) (is : r ≡ chroma_rows_at i component x y) where
      -- the rows of the copy that its taps read
      abbrev starts : ChromaStarts
      starts = chroma_starts_of (pitch columns) row r

      -- how far the rows of Table 46 reach
      reach : r.y2 ≡ (chroma_rows_at i component x y).y2
      reach = ap (λ (r : ChromaRows). r.y2) is

      here : chroma_read i component x y (x, y) ≡ get_or copy (starts.here + column + 3) 0
      here = neighbour x y 3 (row + 3) (omega arith) (omega arith) (omega arith)

      plus_same : map (chroma_read i component x y) (chroma_plus x y r)
          ≡ copy_plus copy starts column
      unfolding chroma_plus copy_plus
      plus_same =
          let e0 = neighbour x (y + r.y2) 3 (row + 3 + r.y2) (omega arith) (omega (arith, reach)) (omega (arith, reach)) in
          let e1 = neighbour (x + 1) (y + r.y1) 4 (row + 3 + r.y1) (omega arith) (omega (arith, reach)) (omega (arith, reach)) in
          let e2 = neighbour x (y + r.y1) 3 (row + 3 + r.y1) (omega arith) (omega (arith, reach)) (omega (arith, reach)) in
          let e3 = neighbour (x - 1) (y + r.y1) 2 (row + 3 + r.y1) (omega arith) (omega (arith, reach)) (omega (arith, reach)) in
          let e4 = neighbour (x + 2) y 5 (row + 3) (omega arith) (omega (arith, reach)) (omega (arith, reach)) in
          let e5 = neighbour (x + 1) y 4 (row + 3) (omega arith) (omega (arith, reach)) (omega (arith, reach)) in
          λ t. e0 t ∷ e1 t ∷ e2 t ∷ e3 t ∷ e4 t ∷ e5 t ∷ []

      minus_same : map (chroma_read i component x y) (chroma_minus x y r)
          ≡ copy_minus copy starts column
      unfolding chroma_minus copy_minus
      minus_same =
          let e0 = neighbour x (y - r.y2) 3 (row + 3 - r.y2) (omega arith) (omega (arith, reach)) (omega (arith, reach)) in
          let e1 = neighbour (x - 1) (y - r.y1) 2 (row + 3 - r.y1) (omega arith) (omega (arith, reach)) (omega (arith, reach)) in
          let e2 = neighbour x (y - r.y1) 3 (row + 3 - r.y1) (omega arith) (omega (arith, reach)) (omega (arith, reach)) in
          let e3 = neighbour (x + 1) (y - r.y1) 4 (row + 3 - r.y1) (omega arith) (omega (arith, reach)) (omega (arith, reach)) in
          let e4 = neighbour (x - 2) y 1 (row + 3) (omega arith) (omega (arith, reach)) (omega (arith, reach)) in
          let e5 = neighbour (x - 1) y 2 (row + 3) (omega arith) (omega (arith, reach)) (omega (arith, reach)) in
          λ t. e0 t ∷ e1 t ∷ e2 t ∷ e3 t ∷ e4 t ∷ e5 t ∷ []

      with_same : {filters taps : List ℤ} → ChromaFilter i c component filters → Spread filters 6 (extent columns) taps
          → piece_sample copy (pitch columns) r taps i.layout.picture.bit_depth row column ≡ chroma_with i component x y r
      unfolding piece_sample chroma_copy_sample chroma_with
      with_same {filters} {taps} F S =
          let inside : column < extent columns = omega arith in
          let numbers = taps_same 6 (get_or copy (starts.here + column + 3) 0)
          (copy_plus copy starts column) (copy_minus copy starts column)
          (λ j h. S.coefficients j column h inside ∙ F.coefficients j h) (λ j h. S.clips j column h inside ∙ F.clips j h) in
          rw (own, here, plus_same, minus_same)
          (ap (λ (z : ℤ). filtered i.layout.picture.bit_depth r.shift (get_or copy (starts.here + column + 3) 0) z) numbers)

  -- the sample at index k
  pub sample_same : {g : Grid} → GridOf p g → {filters taps : List ℤ} → ChromaFilter i c component filters
      → Spread filters 6 (extent columns) taps
      → (k : ℕ) → in_rect (p.width / sub_width p) columns.start columns.end rows.start rows.end k ≡ true
      → copy_chroma_at p g.ctb copy taps columns rows k ≡ at_index (chroma_plane i.layout) (chroma_sample i component) k
  unfolding plane_of copy_chroma_at at_index chroma_sample line_rule bottom_distance
  sample_same grid F S k t =
      let q = i.layout.picture in
      let f : InRect (q.width / sub_width q) columns.start columns.end rows.start rows.end k =
      rw ctb.picture (rect_facts (p.width / sub_width p) columns.start columns.end rows.start rows.end k t) in
      rw (grid.ctb, ← ctb.picture)
      (with_same (k % (q.width / sub_width q)) (k / (q.width / sub_width q)) f.0 f.1 f.2 f.3 _ (chroma_offsets _ _)
      (row_bounds _ _).0 refl F S)
