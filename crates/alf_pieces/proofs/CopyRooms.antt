-- The samples that the copy of a piece takes, and the rows that are read for it. Assumes nothing.
use mathlib.Core.Path.{◌≡◌}
use Prim.Native.Nat.{ℕ, ◌*◌, ◌≤◌}
use native.Mathlib.Nat.{le_trans, mul_comm, mul-le-mul, mul-le-mul_right}
use native.Mathlib.Omega.{arith}
use Rattle.alf_pieces.specs.declared.pieces.Piece.{Piece}
use Rattle.alf_pieces.specs.Pieces.{PieceIn}
use Rattle.alf_pieces.specs.Copies.{pitch, copy_length, area}

-- a copy has at most 134 by 134 samples
pub copy_fits : {n m room : ℕ} {columns rows : Piece} → PieceIn n columns → PieceIn m rows → area ≤ room → copy_length columns rows ≤ room
copy_fits {columns = columns} {rows = rows} across down enough =
    let wide : pitch columns ≤ 134 = omega (arith, across.small) in
    let high : pitch rows ≤ 134 = omega (arith, down.small) in
    le_trans (mul-le-mul high wide) enough

-- the rows up to the piece's limit are the plane's, which has so many samples
pub rows_fit : {n samples : ℕ} {rows : Piece} (width : ℕ) → PieceIn n rows → samples ≡ width * n → rows.limit * width ≤ samples
rows_fit width down whole = rw (whole, mul_comm width) (mul-le-mul_right width down.inside)
