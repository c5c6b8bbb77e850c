-- A row of blocks of a piece: where its windows lie in the copy, and that its class numbers are those of the blocks. Assumes nothing.
use mathlib.Core.Path.{◌≡◌, sym, ap}
use mathlib.Core.Bool.{true}
use mathlib.Core.List.{List}
use Prim.Native.Nat.{ℕ, ◌+◌, ◌-◌, ◌*◌, ◌/◌, ◌%◌, ◌≤◌, ◌<◌}
use native.Mathlib.Nat.{le_trans, mul-le-mul_right}
use native.Mathlib.Omega.{arith}
use lib.ListN.{length, get_or, take, length-take}
use Rattle.alf_spec.specs.declared.Picture.{Picture}
use Rattle.alf_spec.specs.declared.Grid.{Grid}
use Rattle.alf_spec.specs.declared.WindowRows.{WindowRows}
use Rattle.alf_spec.specs.Classes.{window_sums, class_of_sums, class_of}
use Rattle.alf_spec.specs.Process.{class_number}
use Rattle.alf_math.specs.Grids.{AcceptedPicture}
use Rattle.alf_math.proofs.Grids.{height_bounds}
use Rattle.alf_pieces.specs.declared.pieces.Piece.{Piece}
use Rattle.alf_pieces.specs.Pieces.{BlockPiece}
use Rattle.alf_pieces.specs.Copies.{extent, pitch as pitch_of, copy_length, area}
use Rattle.alf_lists.specs.Regions.{between}
use Rattle.alf_lists.proofs.Regions.{run_facts, row_of, row_room}
use Rattle.alf_pieces.proofs.CopyRooms.{copy_fits}
use Rattle.alf_classify.specs.Windows.{copy_window, Differences, block_sums, SmallRuns, row_class}
use Rattle.alf_classify.specs.PieceClasses.{row_window, copy_class_at}
use Rattle.alf_classify.proofs.DifferenceLists.{small_runs, of_part}
use Rattle.alf_classify.proofs.WindowSums.{RowBounds, row_bounds, window_sums_lem}

-- what stands before the rows of a piece, each of so many blocks, are classified: its copy, and the differences of the copy
pub record Prepared (rows : Piece) (copy d : List ℕ) (pitch count : ℕ) : Type 0 where
  pub few : count ≤ 32
  pub pitch_is : pitch ≡ 4 * count + 6
  pub samples : (k : ℕ) → k < (extent rows + 6) * pitch → get_or copy k 0 < 4096
  pub small : (extent rows + 6) * pitch ≤ area
  pub room : 4 * area ≤ length d
  pub differences : Differences copy pitch ((extent rows + 6) * pitch) d

-- along an axis of n samples: whole blocks
pub record Blocks (n : ℕ) (p : Piece) : Type 0 where
  pub few : extent p ≤ 128
  pub whole : extent p ≡ 4 * (extent p / 4)
  pub last : p.start / 4 + extent p / 4 ≡ p.end / 4
  pub upto : p.end / 4 ≤ n / 4

pub blocks : {n : ℕ} {p : Piece} → BlockPiece n p → Blocks n p
blocks {n} {p} B =
    let N = B.numbers in
    let s = B.start4 in
    let e = B.end4 in
    let filled = N.filled in
    let small = N.small in
    let high = N.high in
    let inside = N.inside in
    record { few = omega arith; whole = omega arith; last = omega arith; upto = omega arith }

-- the windows of a row of blocks, which begin at row t of the copy and reach so many pairs of rows: the differences that they need
row_fits : (t first pairs pitch count : ℕ) → (1 ≤ first) × (first + 2 * pairs ≤ 9) × (3 ≤ pairs) × (pitch ≡ 4 * count + 6)
    → (pitch + 1 ≤ (t + first) * pitch + 1)
    × ((t + first) * pitch + 1 + (4 * count + 3) + (pairs * (2 * pitch) + 1 - pitch) + (pitch + 1) ≤ (t + 10) * pitch)
row_fits t first pairs pitch count h =
    let one : 1 * pitch ≤ (t + first) * pitch = mul-le-mul_right pitch (omega arith) in
    let all : (t + first + 2 * pairs) * pitch ≤ (t + 9) * pitch = mul-le-mul_right pitch (omega arith) in
    let three : 3 * (2 * pitch) ≤ pairs * (2 * pitch) = mul-le-mul_right (2 * pitch) h.2 in
    (omega arith, omega arith)

-- what the run over the copy asks of the piece's sizes
pub copy_bounds : {m n : ℕ} {columns rows : Piece} → BlockPiece m columns → BlockPiece n rows
    → (2 * (pitch_of columns + 1) ≤ copy_length columns rows) × (copy_length columns rows ≤ area)
copy_bounds {columns = columns} {rows = rows} across down =
    let low : 6 * pitch_of columns ≤ copy_length columns rows = mul-le-mul_right (pitch_of columns) (omega arith) in
    (omega arith, copy_fits across.numbers down.numbers (omega arith))

-- so they stand once the differences of the part of the room that the copy fills are found
pub prepared : {m n : ℕ} {columns rows : Piece} → BlockPiece m columns → BlockPiece n rows → (copy d : List ℕ) {width height old : ℕ}
    → width ≡ extent columns → height ≡ extent rows → ((k : ℕ) → k < copy_length columns rows → get_or copy k 0 < 4096) → area ≤ length copy
    → 4 * area ≤ old
    → (let part = take ((height + 6) * (width + 6)) copy in (length d ≡ old) × Differences part (width + 6) (length part) d)
    → Prepared rows copy d (width + 6) (width / 4)
prepared {columns = columns} {rows} across down copy d {width} {height} e f samples copy_room room done =
    let small : (height + 6) * (width + 6) ≤ area = rw (e, f) (copy_bounds across down).1 in
    let whole : length (take ((height + 6) * (width + 6)) copy) ≡ (height + 6) * (width + 6) = simp length-take (omega arith) in
    record {
      few = omega (arith, e, (blocks across).few);
      pitch_is = omega (arith, e, (blocks across).whole);
      samples = rw e samples;
      small = rw f at small;
      room = omega (arith, done.0, room);
      differences = rw f at (of_part copy (width + 6) ((height + 6) * (width + 6)) d whole (omega arith) done.1);
    }

-- a row of blocks lies in the piece and in the picture
pub row_inside : {p : Picture} {g : Grid} → AcceptedPicture p g → {rows : Piece} → BlockPiece p.height rows → {row : ℕ} → row < extent rows / 4
    → (row < 32) × (rows.start + 4 * row ≤ 4096)
row_inside ok B h =
    let N = B.numbers in omega (arith, N.high, N.inside, (blocks B).few, (height_bounds _ ok.sizes ok.ctb_size).1)

module _ (p : Picture) (ctb : ℕ) (rows : Piece) (copy d : List ℕ) {pitch count : ℕ} (P : Prepared rows copy d pitch count)
    (row : ℕ) (below : row < extent rows / 4) where
  -- the row's first sample, in the picture
  abbrev y : ℕ
  y = rows.start + 4 * row

  -- the windows lie in the copy
  rows_inside : (4 * row + 10) * pitch ≤ (extent rows + 6) * pitch
  rows_inside = mul-le-mul_right pitch (omega arith)

  module _ (window : WindowRows) (w : window ≡ row_window p.height ctb y) (from at : ℕ) (f : from ≡ (4 * row + window.first) * pitch + 1)
      (map_columns left top : ℕ) (fits : left + count ≤ map_columns) (a : at ≡ (top + row) * map_columns + left) where
    bounds : RowBounds window
    bounds = rw w (row_bounds _ ctb (y % ctb))

    all_inside : (pitch + 1 ≤ from) × (from + (4 * count + 3) + (window.count / 2 * (2 * pitch) + 1 - pitch) + (pitch + 1) ≤
        (extent rows + 6) * pitch)
    all_inside =
        let b = bounds in
        let h = row_fits (4 * row) window.first (window.count / 2) pitch count (b.0, b.1, b.2, P.pitch_is) in
        rw f (h.0, le_trans h.1 rows_inside)

    -- what the row's function asks of its map and of the differences
    pub row_ready : {map : ℕ} → (top + extent rows / 4) * map_columns ≤ map → (1 ≤ pitch) × (at + count ≤ map)
        × (3 * area + from + (4 * count + 3) + (window.count / 2 * (2 * pitch) + 1 - pitch) ≤ length d)
        × SmallRuns d from (4 * count + 3) (window.count / 2 * (2 * pitch) + 1 - pitch)
    row_ready room =
        let h = all_inside in
        let in_map = row_room (top + row) (top + extent rows / 4) map_columns _ (omega arith) room in (
          omega (arith, P.pitch_is),
          omega (arith, a, fits, in_map),
          omega (arith, h.1, P.small, P.room),
          small_runs copy pitch _ P.samples d from (4 * count + 3) _ P.differences (omega (arith, P.pitch_is)) h.0 h.1,
        )

    -- the class of block m of the row
    block_number : (m : ℕ) → m < count
        → class_of p.bit_depth window (copy_window copy pitch (4 * m) (4 * row))
        ≡ class_of_sums p.bit_depth window.factor (block_sums d pitch (window.count / 2) (from + 4 * m))
    unfolding class_of
    block_number m h =
        let index : (4 * row + window.first) * pitch + (4 * m + 1) ≡ from + 4 * m = omega (arith, f) in
        let sums : window_sums window (copy_window copy pitch (4 * m) (4 * row)) ≡ block_sums d pitch (window.count / 2) (from + 4 * m) =
        rw (← index, w) (window_sums_lem copy pitch (4 * m) (4 * row) d _ P.differences (omega (arith, P.pitch_is)) rows_inside _ ctb _) in
        rw sums

    -- the class number at index k of the map, whatever the piece's columns are, if its copy has that pitch
    pub row_number : (columns : Piece) → pitch_of columns ≡ pitch → (k : ℕ) → between at count k ≡ true
        → row_class d pitch window p.bit_depth from at k ≡ copy_class_at p ctb copy columns rows map_columns left top k
    unfolding copy_class_at
    row_number columns e k t =
        let r = run_facts at count k t in
        let index = row_of map_columns (top + row) k (omega (arith, a)) (omega (arith, a, fits)) in
        let s : 4 * (k % map_columns - left) ≡ 4 * (k - at) = omega (arith, a) in
        let t : 4 * (k / map_columns - top) ≡ 4 * row = omega arith in
        rw (s, t, e, ← w) (ap class_number (sym (block_number (k - at) (omega arith))))
