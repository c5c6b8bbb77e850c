-- A row of blocks of a piece: what it is filtered with, and that its samples are those of the piece. Assumes nothing.
use mathlib.Core.Path.{◌≡◌, ap}
use mathlib.Core.List.{List}
use Prim.Native.Nat.{ℕ, ◌+◌, ◌*◌, ◌/◌, ◌≤◌, ◌<◌}
use native.Mathlib.Omega.{arith}
use lib.IntN.{ℤ, pos}
use lib.ListN.{length, get_or}
use Rattle.alf_spec.specs.declared.Class.{Class}
use Rattle.alf_spec.specs.declared.Grid.{Grid}
use Rattle.alf_spec.specs.declared.Picture.{Picture}
use Rattle.alf_spec.specs.Lists.{painted}
use Rattle.alf_spec.specs.Process.{class_number}
use Rattle.alf_pieces.specs.declared.luma_pieces.LumaPiece.{LumaPiece}
use Rattle.alf_lists.specs.Regions.{in_rect}
use Rattle.alf_lists.specs.Filled.{Filled}
use Rattle.alf_lists.proofs.Painted.{paint_is, paint_of, paint_same}
use Rattle.alf_pieces.specs.declared.pieces.Piece.{Piece}
use Rattle.alf_pieces.specs.Copies.{extent}
use Rattle.alf_classify.proofs.PieceRows.{Blocks, blocks}
use Rattle.alf_taps.specs.Spread.{clips_at, TapNumbers}
use Rattle.alf_params.specs.Filters.{FilterNumbers}
use Rattle.alf_luma.specs.SpreadFilters.{TapOrders, spread_from, ClassNumbers}
use Rattle.alf_luma.specs.Samples.{spread_sample_at, piece_class, MapOf, luma_copy_sample_at, BlockRowInput}
use Rattle.alf_luma.proofs.SpreadFilters.{class_of_range, number_range, RowFilters, row-filters, spread-numbers}
use Rattle.alf_luma.proofs.SpreadRows.{blocks_value}

module _ (piece : LumaPiece) {filters : List ℤ} {orders : List ℕ} {taps0 : List ℤ} {output : ℕ} (copy map : List ℕ) (row : ℕ)
    (work : BlockRowInput piece.picture piece.grid filters orders taps0 output)
    (all : length map ≡ 1024) (classes : MapOf piece.picture piece.grid.ctb copy piece.columns piece.rows map)
    (below : row < extent piece.rows / 4) where
  abbrev p : Picture
  p = piece.picture

  abbrev g : Grid
  g = piece.grid

  abbrev columns : Piece
  columns = piece.columns

  abbrev rows : Piece
  rows = piece.rows

  -- the class of block b of the row
  abbrev class : ℕ → Class
  class b = piece_class p g.ctb copy columns rows b row

  across : Blocks p.width columns
  across = blocks piece.across

  down : Blocks p.height rows
  down = blocks piece.down

  few : extent columns / 4 ≤ 32
  few = omega (arith, across.few)

  numbers : (b : ℕ) → b < extent columns / 4 → get_or map (row * 32 + b) 0 ≡ class_number (class b)
  numbers b h = classes b row h below

  -- what spreading the row's filters asks
  pub spread_ready : FilterNumbers filters × TapOrders orders × (row * 32 + extent columns / 4 ≤ length map)
      × ClassNumbers map (row * 32) (extent columns / 4) × (extent columns / 4 ≤ 32) × (2 * clips_at ≤ length taps0)
  spread_ready = (
    work.numbers,
    work.order,
    omega (arith, all, below, few, down.few),
    λ b h. number_range (numbers b h) (class_of_range _ _ _),
    few,
    work.spread.room,
  )

  -- the filters of the row's blocks, spread
  module _ {taps : List ℤ} (filled : Filled (pos 0) taps0 (in_rect 128 0 (4 * (extent columns / 4)) 0 24)
      (spread_from filters orders map (row * 32)) taps) where
    pub taps_valid : TapNumbers taps
    taps_valid =
        spread-numbers filters orders map (row * 32) _ class filled work.order work.spread.room few numbers
        (λ b. class_of_range _ _ _) work.numbers work.spread

    own_filters : RowFilters filters taps class (extent columns)
    own_filters =
        row-filters filters orders map (row * 32) _ class filled work.order work.spread.room few numbers
        (λ b. class_of_range _ _ _) _ (omega (arith, across.whole))

    -- the row's samples are those of the piece
    pub blocks-painted : (old : List ℕ) {new : List ℕ}
        → new ≡ painted old (in_rect p.width columns.start (columns.start + extent columns) (rows.start + 4 * row)
        (rows.start + 4 * row + 4))
        (spread_sample_at p g.ctb copy taps columns.start (extent columns) (rows.start + 4 * row) (4 * row))
        → new ≡ painted old (in_rect p.width columns.start columns.end (rows.start + 4 * row) (rows.start + 4 * row + 4))
        (luma_copy_sample_at p g.ctb copy columns rows filters)
    blocks-painted old e =
        let last : columns.end ≡ columns.start + extent columns = omega (arith, piece.across.numbers) in
        paint_is (paint_same (paint_of {xs = old} e)
        (λ k h. ap (λ (x : ℕ). in_rect p.width columns.start x (rows.start + 4 * row) (rows.start + 4 * row + 4) k) last)
        (λ k h t. blocks_value p g.ctb copy columns rows filters _ row own_filters k t))
