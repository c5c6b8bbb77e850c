-- A chroma sample of a piece, corrected from the piece's copy, is that of the picture. Assumes nothing.
use mathlib.Core.Path.{◌≡◌, refl, sym, ap, ap₂, ◌∙◌}
use mathlib.Core.Bool.{true}
use mathlib.Core.List.{List, [], ◌∷◌, map}
use Prim.Native.Nat.{ℕ, ◌+◌, ◌-◌, ◌*◌, ◌/◌, ◌%◌, ◌≤◌, ◌<◌}
use native.Mathlib.Nat.{mul-one, div-one, div-add-mod'}
use native.Mathlib.Omega.{arith}
use lib.IntN.{ℤ, pos, ◌-ℤ◌, ◌*ℤ◌}
use lib.ListN.{length, get_or}
use Rattle.alf_spec.specs.declared.CrossRows.{CrossRows}
use Rattle.alf_spec.specs.declared.Ctb.{Ctb}
use Rattle.alf_spec.specs.declared.Grid.{Grid}
use Rattle.alf_spec.specs.declared.Picture.{Picture}
use Rattle.alf_spec.specs.declared.Sides.{Sides}
use Rattle.alf_spec.specs.Lists.{painted}
use Rattle.alf_spec.specs.Input.{Layout, Input}
use Rattle.alf_spec.specs.Geometry.{sub_width, sub_height, ctb_size, plane_of, luma_plane, chroma_plane, ctb_at, line_rule, bottom_distance}
use Rattle.alf_spec.specs.Boundary.{column_side, row_side}
use Rattle.alf_spec.specs.Padding.{read}
use Rattle.alf_spec.specs.Parameters.{cross_aps, cross_index, cross_coeff}
use Rattle.alf_spec.specs.CrossComponent.{cross_rows, cross_taps, cross_sum, corrected, cross_with, cross_sample}
use Rattle.alf_spec.specs.Process.{at_index}
use Rattle.alf_spec.proofs.Lists.{sum_sameℤ}
use Rattle.alf_spec.proofs.Axes.{ctb_of_lem}
use Rattle.alf_spec.proofs.Ratios.{whole, chroma_ratios, le_own, lt_own}
use Rattle.alf_math.specs.Grids.{GridOf}
use Rattle.alf_pieces.specs.declared.pieces.Piece.{Piece}
use Rattle.alf_lists.specs.Regions.{between, in_rect}
use Rattle.alf_pieces.specs.Pieces.{PieceOf, CtbOf}
use Rattle.alf_pieces.specs.Copies.{extent, pitch, copy_length, copy_at}
use Rattle.alf_lists.proofs.Regions.{InRect, rect_facts}
use Rattle.alf_pieces.proofs.CtbPieces.{column_facts, row_facts}
use Rattle.alf_pieces.proofs.PieceWalk.{walk_luma}
use Rattle.alf_pieces.proofs.CopyHolds.{copy_holds}
use Rattle.alf_pieces.proofs.CopySamples.{luma_in}
use Rattle.alf_cross.specs.Taps.{Split}
use Rattle.alf_cross.specs.Pieces.{CrossFilter, cross_rows_of, split_read, piece_sum, split_cross_at}
use Rattle.alf_cross.proofs.PieceRows.{SmallRows, small-rows}

-- ---- sums

-- sums with the same coefficients are the same
cross_sum_same : (middle : ℕ) (around : List ℕ) (f g : ℕ → ℤ) → ((j : ℕ) → j < 7 → f j ≡ g j)
    → cross_sum middle f around ≡ cross_sum middle g around
unfolding cross_sum
cross_sum_same middle around f g e = sum_sameℤ 7 _ _ (λ j h. ap (λ (c : ℤ). c *ℤ (pos (get_or around j 0) -ℤ pos middle)) (e j h))

-- ---- Table 47 in the luma plane

offsets_same : (l : Layout) (y : ℕ)
    → cross_rows (line_rule (luma_plane l).rows y) (bottom_distance (luma_plane l).rows y) ≡ cross_rows_of l.picture.height
    (ctb_size l.picture) y
unfolding plane_of line_rule bottom_distance
offsets_same l y = simp (mul-one, div-one)

-- ---- a piece of the CTB c, its copy, as `copy_piece` leaves it, and its split copy

module _ {i : Input} {p : Picture} {c : Ctb} {s : Sides} (ctb : CtbOf i.layout p c s) {g : Grid} (grid : GridOf p g)
    {component : ℕ} {filters : List ℤ} (filter : CrossFilter i c component filters) {columns rows : Piece}
    (across : PieceOf (luma_plane i.layout).columns (column_side i.layout c) c.column columns)
    (down : PieceOf (luma_plane i.layout).rows (row_side i.layout c) c.row rows)
    {luma chroma : List ℕ} (is_luma : i.luma ≡ luma) (is_chroma : i.chroma ≡ chroma) (copy copy0 split : List ℕ)
    (copies : copy ≡ painted copy0 (between 0 (copy_length columns rows)) (copy_at columns rows s luma p.width))
    (room : copy_length columns rows ≤ length copy0) (is_split : Split copy split (pitch columns) (sub_width p) (pitch rows)) where
  -- the sample whose luma position (x, y) lies in column m and row n of the piece
  module _ (x y m n : ℕ) (column : x ≡ columns.start + m) (row : y ≡ rows.start + n) (right : m < extent columns)
      (bottom : n < extent rows) where
    -- its neighbour at (u, v) stands in column a and row b of the copy
    read_same : (u v a b : ℕ) → (x ≤ u + 3) × (u ≤ x + 3) × (y ≤ v + 3) × (v ≤ y + 3)
        → (u ≡ columns.start + a - 3) × (v ≡ rows.start + b - 3) × (a < pitch columns) × (b < pitch rows)
        → read i.layout (luma_plane i.layout) x y i.luma u v ≡ split_read split columns (sub_width i.layout.picture) (a, b)
    unfolding plane_of
    read_same u v a b near stands =
        let wide : i.layout.picture.width / 1 ≡ p.width = rw ctb.picture (div-one p.width) in
        let split : Split copy split (pitch columns) (sub_width i.layout.picture) (pitch rows) = rw ctb.picture is_split in
        copy_holds ctb 1 1 4 whole whole walk_luma across down i.luma copy copy0 wide (rw (← is_luma) at copies) room x y u v a b
        (luma_in (luma_plane i.layout).columns columns x u refl (omega arith) (omega arith) near.0 near.1)
        (luma_in (luma_plane i.layout).rows rows y v refl (omega arith) (omega arith) near.2 near.3)
        stands.0 stands.1 stands.2 stands.3 ∙ sym ((split.row b stands.3).same a stands.2)

    -- a neighbour
    abbrev reads : ℕ × ℕ → ℕ
    reads q = read i.layout (luma_plane i.layout) x y i.luma q.0 q.1

    taps_same : (r : CrossRows) → SmallRows r → map reads (cross_taps x y r) ≡ map (split_read split columns (sub_width i.layout.picture))
        (cross_taps (m + 3) (n + 3) r)
    unfolding cross_taps
    taps_same r near =
        let up = near.above in
        let down = near.below in
        let order = near.order in
        λ t.
        read_same x (y - r.y1) (m + 3) (n + 3 - r.y1) (omega arith) (omega arith) t
        ∷ read_same (x - 1) y (m + 3 - 1) (n + 3) (omega arith) (omega arith) t
        ∷ read_same (x + 1) y (m + 3 + 1) (n + 3) (omega arith) (omega arith) t
        ∷ read_same (x - 1) (y + r.y1) (m + 3 - 1) (n + 3 + r.y1) (omega arith) (omega arith) t
        ∷ read_same x (y + r.y1) (m + 3) (n + 3 + r.y1) (omega arith) (omega arith) t
        ∷ read_same (x + 1) (y + r.y1) (m + 3 + 1) (n + 3 + r.y1) (omega arith) (omega arith) t
        ∷ read_same x (y + r.y2) (m + 3) (n + 3 + r.y2) (omega arith) (omega arith) t
        ∷ []

    sums_same : (r : CrossRows) → SmallRows r
        → piece_sum split columns (sub_width i.layout.picture) filters r (m + 3) (n + 3)
        ≡ cross_sum (reads (x, y)) (cross_coeff i (cross_aps i c component) component (cross_index i c component - 1))
        (map reads (cross_taps x y r))
    unfolding piece_sum
    sums_same r near =
        cross_sum_same _ _ _ _ filter.coefficients
        ∙ ap₂ (λ (middle : ℕ) (around : List ℕ). cross_sum middle
        (cross_coeff i (cross_aps i c component) component (cross_index i c component - 1)) around)
        (sym (read_same x y (m + 3) (n + 3) (omega arith) (omega arith))) (sym (taps_same r near))

    -- it is of the CTB c
    own_ctb : (x' y' : ℕ) → x' * sub_width i.layout.picture ≡ x → y' * sub_height i.layout.picture ≡ y
        → ctb_at (chroma_plane i.layout) x' y' ≡ c
    unfolding plane_of
    own_ctb x' y' ex ey =
        let in_columns = column_facts ctb 1 1 4 whole across in
        let in_rows = row_facts ctb 1 1 4 whole walk_luma down in
        rw (
          ex,
          ey,
          ctb_of_lem (luma_plane i.layout).columns c.column x (omega (arith, in_columns.from)) (omega (arith, in_columns.upto)),
          ctb_of_lem (luma_plane i.layout).rows c.row y (omega (arith, in_rows.from)) (omega (arith, in_rows.upto)),
        )

  -- the sample at index k of the chroma plane
  pub sample_same : (k : ℕ)
      → in_rect (p.width / sub_width p) (columns.start / sub_width p) (columns.end / sub_width p)
      (rows.start / sub_height p) (rows.end / sub_height p) k ≡ true
      → split_cross_at p g.ctb filters split chroma columns rows k ≡ at_index (chroma_plane i.layout) (cross_sample i component) k
  unfolding plane_of split_cross_at at_index cross_sample cross_with
  sample_same k t =
      let l = i.layout in
      let q = l.picture in
      let W = q.width / sub_width q in
      let f : InRect W (columns.start / sub_width q) (columns.end / sub_width q) (rows.start / sub_height q) (rows.end / sub_height q) k =
      rw ctb.picture (rect_facts (p.width / sub_width p) (columns.start / sub_width p) (columns.end / sub_width p)
      (rows.start / sub_height p)
      (rows.end / sub_height p) k t) in
      let in_columns = column_facts ctb 1 1 4 whole across in
      let in_rows = row_facts ctb 1 1 4 whole walk_luma down in
      let x : ℕ = k % W * sub_width q in
      let y : ℕ = k / W * sub_height q in
      let left : columns.start ≤ x = le_own (sub_width q) (chroma_ratios q).0 columns.start (k % W)
      (omega (arith, in_columns.start4)) f.0 in
      let right : x < columns.end = lt_own (sub_width q) columns.end (k % W) f.1 in
      let top : rows.start ≤ y = le_own (sub_height q) (chroma_ratios q).1 rows.start (k / W) (omega (arith, in_rows.start4)) f.2 in
      let bottom : y < rows.end = lt_own (sub_height q) rows.end (k / W) f.3 in
      let m : ℕ = x - columns.start in
      let n : ℕ = y - rows.start in
      let column : x ≡ columns.start + m = omega arith in
      let row : y ≡ rows.start + n = omega arith in
      let own = own_ctb x y m n column row (omega arith) (omega arith) (k % W) (k / W) refl refl in
      rw (grid.ctb, ← is_chroma, ← ctb.picture, div-add-mod' k W, own, offsets_same l y)
      (ap (corrected q.bit_depth (get_or i.chroma k 0))
      (sums_same x y m n column row (omega arith) (omega arith) (cross_rows_of q.height (ctb_size q) y) (small-rows _ _)))
