-- What the functions of a piece are given, and what its copy says of its blocks. Assumes nothing.
use Rattle.std.specs.Prelude.{List, [], ℕ, ◌+◌, ◌-◌, ◌*◌, ◌/◌, ◌%◌, ◌≤◌}
use Rattle.alf_spec.specs.declared.Picture.{Picture}
use Rattle.alf_spec.specs.declared.Grid.{Grid}
use Rattle.alf_spec.specs.declared.WindowRows.{WindowRows}
use Rattle.alf_spec.specs.Geometry.{line_rule, axis_of}
use Rattle.alf_spec.specs.Classes.{window_rows, class_of}
use Rattle.alf_spec.specs.Process.{class_number}
use Rattle.alf_math.specs.Grids.{AcceptedPicture}
use Rattle.alf_pieces.specs.declared.pieces.Piece.{Piece}
use Rattle.alf_pieces.specs.Copies.{extent, pitch, area}
use Rattle.alf_classify.specs.Windows.{copy_window}

-- an accepted picture and its grid, and lists of these lengths: the copy of a piece and its differences
pub record ClassRooms (p : Picture) (g : Grid) (copy differences : ℕ) : Type 0 where
  pub picture : AcceptedPicture p g
  pub copy_room : area ≤ copy
  pub difference_room : 4 * area ≤ differences

-- a map of so many entries, whose rows have mapColumns blocks, has room for the blocks of a piece, the first of them at column `left` and
-- row `top`. The bounds of 1024 blocks, which every picture keeps, let indices be added and multiplied.
pub record MapRoom (columns rows : Piece) (map_columns left top map : ℕ) : Type 0 where
  pub narrow : map_columns ≤ 1024
  pub short : top + extent rows / 4 ≤ 1024
  pub across : left + extent columns / 4 ≤ map_columns
  pub down : (top + extent rows / 4) * map_columns ≤ map

-- the rows that count in the window of a block whose first row is y
abbrev pub row_window : ℕ → ℕ → ℕ → WindowRows
row_window height ctb y = window_rows (line_rule (axis_of height ctb [] 4 1) y) ctb (y % ctb)

-- the class and the transpose of the block of entry k of such a map, from the piece's copy
unfoldable pub copy_class_at : Picture → ℕ → List ℕ → Piece → Piece → ℕ → ℕ → ℕ → ℕ → ℕ
copy_class_at p ctb copy columns rows map_columns left top k =
    let s = 4 * (k % map_columns - left) in
    let t = 4 * (k / map_columns - top) in
    class_number (class_of p.bit_depth (row_window p.height ctb (rows.start + t)) (copy_window copy (pitch columns) s t))
