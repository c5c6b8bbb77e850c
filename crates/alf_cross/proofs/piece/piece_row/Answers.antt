-- The row's luma row lies in the piece. Assumes nothing.
use Rattle.std.proofs.Common.{◌*◌, ◌≤◌, ◌<◌, arith}
use Rattle.std.proofs.Math.Nat.{div-le_self}
use Rattle.alf_spec.specs.Geometry.{sub_height}
use Rattle.alf_math.proofs.Grids.{width_bounds, height_bounds}
use Rattle.alf_cross.proofs.PieceRows.{SmallRows, small-rows, luma-row}
use Rattle.alf_cross.proofs.piece.piece_row.Goals as goal
use Rattle.alf_cross.proofs.piece.piece_row.Goals.{After-sub_height}

-- the luma row, by the ratio that code has, lies in the piece, and so in the picture
inside : (c : After-sub_height) → let a = c.args.piece in let y = c.args.v * c.sub_height.result in
    (a.rows.start ≤ y) × (y < a.rows.end) × (a.rows.end ≤ 4096) × (c.args.v ≤ 4096)
inside c =
    let a = c.args.piece in
    let P = c.args.piece.accepted in
    let N = c.args.piece.down.numbers in
    let tall : a.rows.end ≤ 4096 = omega (arith, N.high, N.inside, (height_bounds _ P.sizes P.ctb_size).1) in
    let h = luma-row a.picture c.args.piece.across c.args.piece.down c.args.v c.requires.0 c.requires.1 in
    rw c.sub_height.ensures.0 (h.0, h.1, tall, omega (arith, div-le_self a.rows.end (sub_height a.picture), c.requires.1))

pub rows_at-offsets-requires : goal.rows_at-offsets-requires
rows_at-offsets-requires c =
    let G = c.args.piece.accepted.grid in
    omega (arith, G.ctb_low, G.ctb_high, inside (goal.at.rows_at-offsets-requires c).After-sub_height)

pub overflow_sub-y : goal.overflow_sub-y
overflow_sub-y c = (inside (goal.at.overflow_sub-y c).After-sub_height).0

pub cross_starts-requires : goal.cross_starts-requires
cross_starts-requires c =
    let N : SmallRows c.rows_at-offsets.result = rw c.rows_at-offsets.ensures (small-rows _ _) in
    let y = inside (goal.at.cross_starts-requires c).After-sub_height in (
      omega (arith, c.extent-width.ensures, c.args.piece.across.numbers.small),
      omega (arith, N.above),
      omega (arith, N.above, y, c.args.piece.down.numbers.small),
      omega (arith, N.below, y, c.args.piece.down.numbers.small),
    )

pub plane_index-requires : goal.plane_index-requires
plane_index-requires c =
    let P = c.args.piece.accepted in (
      omega (arith, div-le_self c.args.piece.picture.width c.sub_width-step.result, (width_bounds _ P.sizes P.ctb_size).1),
      (inside (goal.at.plane_index-requires c).After-sub_height).3,
    )
