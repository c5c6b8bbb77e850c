-- The filtered samples of a piece, from its copy, are those of `alf_spec`. Assumes nothing.
use mathlib.Core.Path.{◌≡◌, refl, sym, ap, ap₂, ◌∙◌}
use mathlib.Core.Bool.{true}
use mathlib.Core.List.{List, [], ◌∷◌, map}
use Prim.Native.Nat.{ℕ, ◌+◌, ◌-◌, ◌*◌, ◌/◌, ◌%◌, ◌≤◌, ◌<◌}
use native.Mathlib.Nat.{mul-one, div-one}
use native.Mathlib.Omega.{arith}
use lib.IntN.{ℤ}
use lib.ListN.{length, get_or}
use Rattle.alf_spec.specs.declared.Ctb.{Ctb}
use Rattle.alf_spec.specs.declared.Class.{Class}
use Rattle.alf_spec.specs.declared.Grid.{Grid}
use Rattle.alf_spec.specs.declared.LumaRows.{LumaRows}
use Rattle.alf_spec.specs.declared.Picture.{Picture}
use Rattle.alf_spec.specs.declared.Sides.{Sides}
use Rattle.alf_spec.specs.Lists.{painted}
use Rattle.alf_spec.specs.Arithmetic.{tap_sum, filtered}
use Rattle.alf_spec.specs.Input.{Layout, Input}
use Rattle.alf_spec.specs.Geometry.{plane_of, luma_plane, ctb_at, line_rule, bottom_distance}
use Rattle.alf_spec.specs.Boundary.{column_side, row_side}
use Rattle.alf_spec.specs.Classes.{class_of, block_class}
use Rattle.alf_spec.specs.Luma.{luma_f, luma_c, tap_order, luma_plus, luma_minus, luma_rows_at, luma_read, luma_with, luma_sample}
use Rattle.alf_spec.specs.Process.{class_number, at_index}
use Rattle.alf_spec.proofs.TapOrder.{each_below}
use Rattle.alf_spec.proofs.Ratios.{whole}
use Rattle.alf_spec.proofs.IsolatedRegions.TapPositions.{LumaOffsets, luma_offsets}
use Rattle.alf_math.specs.Grids.{GridOf}
use Rattle.alf_pieces.specs.declared.pieces.Piece.{Piece}
use Rattle.alf_lists.specs.Regions.{between, in_rect}
use Rattle.alf_pieces.specs.Pieces.{PieceOf, CtbOf}
use Rattle.alf_pieces.specs.Copies.{extent, pitch, copy_length, copy_at}
use Rattle.alf_pieces.proofs.PieceFacts.{Facts}
use Rattle.alf_lists.proofs.Painted.{paint_of, paint_in}
use Rattle.alf_lists.proofs.Regions.{in_rect_lem, rect_facts}
use Rattle.alf_pieces.proofs.CtbPieces.{column_facts, row_facts}
use Rattle.alf_pieces.proofs.CopyReads.{own_ctb}
use Rattle.alf_pieces.proofs.CopySamples.{luma_in}
use Rattle.alf_pieces.proofs.PieceWalk.{walk_luma}
use Rattle.alf_pieces.proofs.CopyHolds.{copy_holds}
use Rattle.alf_classify.specs.Windows.{copy_window}
use Rattle.alf_classify.specs.PieceClasses.{row_window, copy_class_at}
use Rattle.alf_classify.proofs.PieceClasses.{block_class_lem}
use Rattle.alf_taps.proofs.SpreadTaps.{taps_same}
use Rattle.alf_luma.specs.Kernel.{current, plus_samples, minus_samples}
use Rattle.alf_params.specs.Filters.{LumaFilters}
use Rattle.alf_luma.specs.Samples.{luma_rows_at_row, starts_of, piece_class, MapOf, luma_copy_sample, luma_copy_sample_at}
use Rattle.alf_luma.proofs.SpreadFilters.{class_of_range, own_coeff, own_clip}

-- the classes of the piece, in a map of its own
pub map_of : (p : Picture) (ctb : ℕ) (copy : List ℕ) (columns rows : Piece) (old : List ℕ) {map : List ℕ}
    → map ≡ painted old (in_rect 32 0 (0 + extent columns / 4) 0 (0 + extent rows / 4)) (copy_class_at p ctb copy columns rows 32 0 0)
    → length old ≡ 1024 → extent columns ≤ 128 → extent rows ≤ 128 → MapOf p ctb copy columns rows map
unfolding copy_class_at
map_of p ctb copy columns rows old e count narrow low b r hb hr =
    let row : (r * 32 + b) / 32 - 0 ≡ r = omega arith in
    let column : (r * 32 + b) % 32 - 0 ≡ b = omega arith in
    paint_in (paint_of e) (r * 32 + b) (omega arith) (in_rect_lem 32 0 (0 + extent columns / 4) 0 (0 + extent rows / 4)
    (r * 32 + b) (omega arith))
    ∙ (λ k. class_number
    (class_of p.bit_depth (row_window p.height ctb (rows.start + 4 * row k))
    (copy_window copy (pitch columns) (4 * column k) (4 * row k))))

module _ {i : Input} {p : Picture} {c : Ctb} {sides : Sides} (ctb : CtbOf i.layout p c sides) {g : Grid} (grid : GridOf p g)
    {columns rows : Piece}
    (across : PieceOf (luma_plane i.layout).columns (column_side i.layout c) c.column columns)
    (down : PieceOf (luma_plane i.layout).rows (row_side i.layout c) c.row rows) (copy copy0 : List ℕ)
    {luma : List ℕ} (given : i.luma ≡ luma)
    (filled : copy ≡ painted copy0 (between 0 (copy_length columns rows)) (copy_at columns rows sides luma p.width))
    (room : copy_length columns rows ≤ length copy0) (filters : List ℤ) (own : LumaFilters i c filters) where
  abbrev l : Layout
  l = i.layout

  copies : copy ≡ painted copy0 (between 0 (copy_length columns rows)) (copy_at columns rows sides i.luma p.width)
  copies = filled ∙ ap (λ (plane : List ℕ). painted copy0 (between 0 (copy_length columns rows))
      (copy_at columns rows sides plane p.width)) (sym given)

  abbrev in_columns : Facts (luma_plane l).columns (column_side l c) c.column columns
  in_columns = column_facts ctb 1 1 4 whole across

  abbrev in_rows : Facts (luma_plane l).rows (row_side l c) c.row rows
  in_rows = row_facts ctb 1 1 4 whole walk_luma down

  -- the sample at (x, y) of the piece
  module _ (x y : ℕ) (left : columns.start ≤ x) (right : x < columns.end) (top : rows.start ≤ y) (bottom : y < rows.end) where
    abbrev s : ℕ
    s = x - columns.start

    abbrev t : ℕ
    t = y - rows.start

    -- its neighbour at (u, v), which stands at column s + dx and row j of the copy
    neighbour : (dx j u v : ℕ) → dx ≤ 6 → j ≤ t + 6 → u ≡ x + dx - 3 → v ≡ rows.start + j - 3 → y ≤ v + 3 → v ≤ y + 3
        → luma_read i x y (u, v) ≡ get_or copy (j * pitch columns + s + dx) 0
    unfolding plane_of
    neighbour dx j u v hx hj eu ev low high =
        let wide : l.picture.width / 1 ≡ p.width = rw ctb.picture (div-one p.width) in
        let index : j * pitch columns + (s + dx) ≡ j * pitch columns + s + dx = omega arith in
        copy_holds ctb 1 1 4 whole whole walk_luma across down i.luma copy copy0 wide copies room x y u v (s + dx) j
        (luma_in (luma_plane l).columns columns x u refl left right (omega arith) (omega arith))
        (luma_in (luma_plane l).rows rows y v refl top bottom low high) (omega arith) ev (omega arith) (omega arith)
        ∙ ap (λ (k : ℕ). get_or copy k 0) index

    below : (dx dy u : ℕ) → dx ≤ 6 → dy ≤ 3 → u ≡ x + dx - 3
        → luma_read i x y (u, y + dy) ≡ get_or copy ((t + 3 + dy) * pitch columns + s + dx) 0
    below dx dy u hx hy e = neighbour dx (t + 3 + dy) u (y + dy) hx (omega arith) e (omega arith) (omega arith) (omega arith)

    above : (dx dy u : ℕ) → dx ≤ 6 → dy ≤ 3 → u ≡ x + dx - 3
        → luma_read i x y (u, y - dy) ≡ get_or copy ((t + 3 - dy) * pitch columns + s + dx) 0
    above dx dy u hx hy e = neighbour dx (t + 3 - dy) u (y - dy) hx (omega arith) e (omega arith) (omega arith) (omega arith)

    here : (dx u : ℕ) → dx ≤ 6 → u ≡ x + dx - 3 → luma_read i x y (u, y) ≡ get_or copy ((t + 3) * pitch columns + s + dx) 0
    here dx u hx e = neighbour dx (t + 3) u y hx (omega arith) e (omega arith) (omega arith) (omega arith)

    -- all neighbours, with the offsets r
    module _ (r : LumaRows) (offsets : LumaOffsets r) where
      plus_is : map (luma_read i x y) (luma_plus x y r) ≡ plus_samples copy (starts_of (pitch columns) t r) s
      unfolding luma_plus
      plus_is = λ k.
          below 3 r.y3 x (omega arith) offsets.2 (omega arith) k
          ∷ below 4 r.y2 (x + 1) (omega arith) offsets.1 (omega arith) k
          ∷ below 3 r.y2 x (omega arith) offsets.1 (omega arith) k
          ∷ below 2 r.y2 (x - 1) (omega arith) offsets.1 (omega arith) k
          ∷ below 5 r.y1 (x + 2) (omega arith) offsets.0 (omega arith) k
          ∷ below 4 r.y1 (x + 1) (omega arith) offsets.0 (omega arith) k
          ∷ below 3 r.y1 x (omega arith) offsets.0 (omega arith) k
          ∷ below 2 r.y1 (x - 1) (omega arith) offsets.0 (omega arith) k
          ∷ below 1 r.y1 (x - 2) (omega arith) offsets.0 (omega arith) k
          ∷ here 6 (x + 3) (omega arith) (omega arith) k
          ∷ here 5 (x + 2) (omega arith) (omega arith) k
          ∷ here 4 (x + 1) (omega arith) (omega arith) k
          ∷ []

      minus_is : map (luma_read i x y) (luma_minus x y r) ≡ minus_samples copy (starts_of (pitch columns) t r) s
      unfolding luma_minus
      minus_is = λ k.
          above 3 r.y3 x (omega arith) offsets.2 (omega arith) k
          ∷ above 2 r.y2 (x - 1) (omega arith) offsets.1 (omega arith) k
          ∷ above 3 r.y2 x (omega arith) offsets.1 (omega arith) k
          ∷ above 4 r.y2 (x + 1) (omega arith) offsets.1 (omega arith) k
          ∷ above 1 r.y1 (x - 2) (omega arith) offsets.0 (omega arith) k
          ∷ above 2 r.y1 (x - 1) (omega arith) offsets.0 (omega arith) k
          ∷ above 3 r.y1 x (omega arith) offsets.0 (omega arith) k
          ∷ above 4 r.y1 (x + 1) (omega arith) offsets.0 (omega arith) k
          ∷ above 5 r.y1 (x + 2) (omega arith) offsets.0 (omega arith) k
          ∷ here 0 (x - 3) (omega arith) (omega arith) k
          ∷ here 1 (x - 2) (omega arith) (omega arith) k
          ∷ here 2 (x - 1) (omega arith) (omega arith) k
          ∷ []

      -- (1466) to (1469) with the filter of a class, from the copy
      with_class : (class : Class) → (class.filter < 25) × (class.transpose < 4) → let starts = starts_of (pitch columns) t r in
          luma_with i x y class r
          ≡ filtered p.bit_depth r.shift (current copy starts s)
          (tap_sum 12 (current copy starts s) (own_coeff filters class) (own_clip filters class) (plus_samples copy starts s)
          (minus_samples copy starts s))
      unfolding luma_with plane_of
      with_class class range =
          let mine : ctb_at (luma_plane l) x y ≡ c = own_ctb l c sides ctb.sides 1 1 4 columns rows in_columns in_rows x y x y
          (luma_in (luma_plane l).columns columns x x refl left right (omega arith) (omega arith))
          (luma_in (luma_plane l).rows rows y y refl top bottom (omega arith) (omega arith)) in
          let depth : l.picture.bit_depth ≡ p.bit_depth = ap (λ (q : Picture). q.bit_depth) ctb.picture in
          let curr = here 3 x (omega arith) (omega arith) in
          (λ k. filtered (depth k) r.shift (curr k)
          (tap_sum 12 (curr k) (λ j. luma_f i (mine k) class.filter (tap_order class.transpose j))
          (λ j. luma_c i (mine k) class.filter (tap_order class.transpose j))
          (plus_is k) (minus_is k)))
          ∙ ap (filtered p.bit_depth r.shift _) (taps_same 12 _ _ _
          (λ j h. sym (own.coefficients class.filter _ range.0 (each_below class.transpose range.1 j h)))
          (λ j h. sym (own.clips class.filter _ range.0 (each_below class.transpose range.1 j h))))

    rows_are : luma_rows_at i x y ≡ luma_rows_at_row p.height g.ctb y
    unfolding plane_of line_rule bottom_distance
    rows_are = rw (grid.ctb, ← ctb.picture) (simp (div-one, mul-one))

    class_is : block_class l i.luma (x / 4 * 4) (y / 4 * 4) ≡ piece_class p g.ctb copy columns rows (s / 4) (t / 4)
    unfolding plane_of
    class_is =
        let column : x / 4 * 4 - columns.start ≡ 4 * (s / 4) = omega (arith, in_columns.start4) in
        let row : y / 4 * 4 - rows.start ≡ 4 * (t / 4) = omega (arith, in_rows.start4) in
        let first : y / 4 * 4 ≡ rows.start + 4 * (t / 4) = omega (arith, in_rows.start4) in
        block_class_lem ctb grid across down i.luma copy copy0 copies room (x / 4 * 4) (y / 4 * 4) (omega arith) (omega arith)
        (omega (arith, in_columns.start4)) (omega arith) (omega (arith, in_rows.start4)) (omega arith)
        ∙ (λ k. class_of p.bit_depth (row_window p.height g.ctb (first k)) (copy_window copy (pitch columns) (column k) (row k)))

    sample_same : luma_copy_sample p g.ctb copy columns rows filters x y ≡ luma_sample i x y
    unfolding luma_copy_sample luma_sample
    sample_same =
        sym (ap₂ (luma_with i x y) class_is rows_are
        ∙ with_class (luma_rows_at_row p.height g.ctb y) (luma_offsets _ _) (piece_class p g.ctb copy columns rows (s / 4) (t / 4))
        (class_of_range _ _ _))

  -- the filtered sample at index k of the plane
  pub samples-same : (k : ℕ) → in_rect p.width columns.start columns.end rows.start rows.end k ≡ true
      → luma_copy_sample_at p g.ctb copy columns rows filters k ≡ at_index (luma_plane l) (luma_sample i) k
  unfolding at_index plane_of
  samples-same k inside =
      let f = rect_facts p.width columns.start columns.end rows.start rows.end k inside in
      let wide : p.width ≡ l.picture.width / 1 = sym (div-one p.width) ∙ ap (λ (q : Picture). q.width / 1) (sym ctb.picture) in
      sample_same (k % p.width) (k / p.width) f.0 f.1 f.2 f.3 ∙ (λ u. luma_sample i (k % wide u) (k / wide u))
