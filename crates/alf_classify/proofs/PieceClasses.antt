-- The class of a block of a piece, from the piece's copy, is that of the block in the picture. Assumes nothing.
use mathlib.Core.Path.{◌≡◌, refl, sym, ap, ◌∙◌}
use mathlib.Core.Bool.{true}
use mathlib.Core.List.{List}
use Prim.Native.Nat.{ℕ, ◌+◌, ◌-◌, ◌*◌, ◌/◌, ◌%◌, ◌≤◌, ◌<◌}
use native.Mathlib.Omega.{arith}
use lib.ListN.{length, get_or}
use Rattle.alf_spec.specs.declared.Ctb.{Ctb}
use Rattle.alf_spec.specs.declared.Grid.{Grid}
use Rattle.alf_spec.specs.declared.Picture.{Picture}
use Rattle.alf_spec.specs.declared.Sides.{Sides}
use Rattle.alf_spec.specs.Lists.{painted}
use Rattle.alf_spec.specs.Input.{Layout}
use Rattle.alf_spec.specs.Geometry.{ctb_size, plane_of, luma_plane, line_rule}
use Rattle.alf_spec.specs.Boundary.{column_side, row_side}
use Rattle.alf_spec.specs.Padding.{read}
use Rattle.alf_spec.specs.Classes.{class_window, class_of, block_class}
use Rattle.alf_spec.specs.Process.{class_number, class_at}
use Rattle.alf_spec.proofs.Lists.{tabulate-same}
use Rattle.alf_spec.proofs.Ratios.{whole}
use Rattle.alf_math.specs.Grids.{GridOf}
use Rattle.alf_pieces.specs.declared.pieces.Piece.{Piece}
use Rattle.alf_lists.specs.Regions.{between, in_rect}
use Rattle.alf_pieces.specs.Pieces.{PieceOf, BlockPiece, CtbOf}
use Rattle.alf_pieces.specs.Copies.{pitch, copy_length, copy_at}
use Rattle.alf_lists.proofs.Regions.{rect_facts}
use Rattle.alf_pieces.proofs.PieceWalk.{walk_luma, block_piece}
use Rattle.alf_pieces.proofs.CtbPieces.{column_facts, row_facts}
use Rattle.alf_pieces.proofs.CopySamples.{window_in}
use Rattle.alf_pieces.proofs.CopyHolds.{copy_holds}
use Rattle.alf_classify.specs.Windows.{copy_window}
use Rattle.alf_classify.specs.PieceClasses.{row_window, copy_class_at}

-- block b of an axis, in a piece: its first sample, from the axis's first and from the piece's
block_in : {n : ℕ} {p : Piece} → BlockPiece n p → (b : ℕ) → p.start / 4 ≤ b → b < p.end / 4
    → (b * 4 % 4 ≡ 0) × (p.start ≤ b * 4) × (b * 4 < p.end) × (4 * (b - p.start / 4) ≡ b * 4 - p.start)
    × (p.start + (b * 4 - p.start) ≡ b * 4)
block_in B b low high = omega (arith, B.start4, B.end4)

module _ {l : Layout} {p : Picture} {c : Ctb} {s : Sides} (ctb : CtbOf l p c s) {g : Grid} (grid : GridOf p g) {columns rows : Piece}
    (across : PieceOf (luma_plane l).columns (column_side l c) c.column columns)
    (down : PieceOf (luma_plane l).rows (row_side l c) c.row rows)
    (luma copy copy0 : List ℕ)
    (copies : copy ≡ painted copy0 (between 0 (copy_length columns rows)) (copy_at columns rows s luma p.width))
    (room : copy_length columns rows ≤ length copy0) where
  -- the block whose first sample is (x, y)
  module _ (x y : ℕ) (x4 : x % 4 ≡ 0) (y4 : y % 4 ≡ 0) (left : columns.start ≤ x) (right : x < columns.end)
      (top : rows.start ≤ y) (bottom : y < rows.end) where
    -- a sample of its window
    window_at : (k : ℕ) → k < 100
        → read l (luma_plane l) x y luma (x + k % 10 - 3) (y + k / 10 - 3)
        ≡ get_or copy ((y - rows.start + k / 10) * pitch columns + (x - columns.start + k % 10)) 0
    unfolding plane_of
    window_at k h =
        let width : l.picture.width / 1 ≡ p.width = rw ctb.picture (omega arith) in
        copy_holds ctb 1 1 4 whole whole walk_luma across down luma copy copy0 width copies room x y _ _ (x - columns.start + k % 10)
        (y - rows.start + k / 10)
        (window_in (luma_plane l).columns columns x (k % 10) refl left right x4 (omega arith))
        (window_in (luma_plane l).rows rows y (k / 10) refl top bottom y4 (omega arith)) (omega arith) (omega arith)
        (omega (arith, (column_facts ctb 1 1 4 whole across).end4)) (omega (arith, (row_facts ctb 1 1 4 whole walk_luma down).end4))

    window_same : class_window l luma x y ≡ copy_window copy (pitch columns) (x - columns.start) (y - rows.start)
    unfolding class_window copy_window
    window_same = tabulate-same 100 _ _ window_at

    -- its class
    pub block_class_lem : block_class l luma x y
        ≡ class_of p.bit_depth (row_window p.height g.ctb y)
        (copy_window copy (pitch columns) (x - columns.start) (y - rows.start))
    unfolding plane_of block_class line_rule
    block_class_lem =
        rw (grid.ctb, ← ctb.picture)
        (ap (λ (w : List ℕ). class_of l.picture.bit_depth (row_window l.picture.height (ctb_size l.picture) y) w) window_same)

  -- the block of entry k of the picture's map
  pub class_same : (k : ℕ) → in_rect (p.width / 4) (columns.start / 4) (columns.end / 4) (rows.start / 4) (rows.end / 4) k ≡ true
      → copy_class_at p g.ctb copy columns rows (p.width / 4) (columns.start / 4) (rows.start / 4) k ≡ class_at l luma k
  unfolding plane_of copy_class_at class_at
  class_same k t =
      let f = rect_facts (p.width / 4) (columns.start / 4) (columns.end / 4) (rows.start / 4) (rows.end / 4) k t in
      let x = block_in (block_piece (column_facts ctb 1 1 4 whole across)) (k % (p.width / 4)) f.0 f.1 in
      let y = block_in (block_piece (row_facts ctb 1 1 4 whole walk_luma down)) (k / (p.width / 4)) f.2 f.3 in
      let wide : p.width ≡ l.picture.width = rw ctb.picture in
      rw (x.3, y.3, y.4)
      (ap class_number (sym (block_class_lem _ _ x.0 y.0 x.1 x.2 y.1 y.2))
      ∙ ap (λ (w : ℕ). class_number (block_class l luma (k % (w / 4) * 4) (k / (w / 4) * 4))) wide)
