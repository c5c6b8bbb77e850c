-- The offsets are those of Table 45 at row y.
use Rattle.std.proofs.Common.{◌≡◌, [], ℕ, ◌+◌, ◌*◌, ◌≤◌, length, refl, arith}
use native.Mathlib.Nat.{mul_comm, mul-le-mul_right}
use Rattle.alf_math.proofs.Grids.{depth_bounds, width_bounds, height_bounds}
use Rattle.alf_spec.specs.Geometry.{axis_of}
use Rattle.alf_lists.proofs.Regions.{row_room}
use Rattle.alf_pieces.specs.Copies.{pitch, copy_length, extent}
use Rattle.alf_classify.proofs.PieceRows.{blocks}
use Rattle.alf_luma.specs.Samples.{luma_rows_at_row}
use Rattle.alf_luma.proofs.TapRows.{Rising, rising, row_reads}
use Rattle.alf_luma.proofs.piece.filter_row.Goals as goal
use Rattle.alf_luma.proofs.piece.filter_row.Goals.{Start, After-luma_rows-r}

-- where the row lies in the picture and in the plane
record Inside (width height across rows left start t room : ℕ) : Type 0 where
  wide : width ≤ 4096
  high : start + rows ≤ height
  tall : height ≤ 4096
  short : rows ≤ 128
  narrow : across ≤ 128
  right : left + across ≤ width
  row : (start + t) * width + width ≤ room

inside : (c : Start) → let p = c.args.piece in
    Inside p.picture.width p.picture.height (extent p.columns) (extent p.rows) p.columns.start p.rows.start c.args.t
    (length c.args.output.now)
inside c =
    let p = c.args.piece in
    let a = p.accepted in
    let across = p.across.numbers in
    let down = p.down.numbers in
    let below : p.rows.start + extent p.rows ≤ p.picture.height = omega (arith, down.filled, down.high, down.inside) in
    record {
      wide = (width_bounds _ a.sizes a.ctb_size).1;
      high = below;
      tall = (height_bounds _ a.sizes a.ctb_size).1;
      short = (blocks p.down).few;
      narrow = (blocks p.across).few;
      right = omega (arith, across.filled, across.high, across.inside);
      row = row_room (p.rows.start + c.args.t) p.picture.height p.picture.width _ (omega (arith, c.requires.0, below))
          (omega (arith, mul_comm p.picture.width p.picture.height, c.requires.3));
    }

offsets : (c : After-luma_rows-r) → c.luma_rows-r.result ≡ luma_rows_at_row c.args.piece.picture.height c.args.piece.grid.ctb
    (c.args.piece.rows.start + c.args.t)
offsets c = rw (c.line_rule-line.ensures (axis_of c.args.piece.picture.height c.args.piece.grid.ctb [] 4 1) refl refl) at
    c.luma_rows-r.ensures

pub line_rule-line-requires : goal.line_rule-line-requires
line_rule-line-requires c =
    let grid = c.args.piece.accepted.grid in
    let i = inside (goal.at.line_rule-line-requires c).Start in
    (omega (arith, grid.ctb_low), grid.ctb_high, omega (arith, i.high, i.tall, c.requires.0))

pub starts-requires : goal.starts-requires
starts-requires c =
    let at = goal.at.starts-requires c in
    let i = inside at.Start in
    let rises : Rising c.luma_rows-r.result = rw (offsets at.After-luma_rows-r) (rising _ _) in
    omega (arith, rises, i.narrow, i.short, c.requires.0, c.extent-n.ensures)

pub plane_index-requires : goal.plane_index-requires
plane_index-requires c =
    let i = inside (goal.at.plane_index-requires c).Start in
    (i.wide, omega (arith, i.high, i.tall, c.requires.0))

pub invariant_of-source : goal.invariant_of-source
invariant_of-source c =
    let rises : Rising c.luma_rows-r.result = rw (offsets (goal.at.invariant_of-source c).After-luma_rows-r) (rising _ _) in
    record { numbers = c.requires.2; shift_fits = rises.shift; depth_fits = (depth_bounds _ c.args.piece.accepted.depth).1 }

pub luma_row-requires : goal.luma_row-requires
luma_row-requires c =
    let at = goal.at.luma_row-requires c in
    let i = inside at.Start in
    let p = c.args.piece in
    let t = c.args.t in
    let held = c.requires.1 in
    let rises : Rising c.luma_rows-r.result = rw (offsets at.After-luma_rows-r) (rising _ _) in
    let rows : (t + 7) * pitch p.columns ≤ copy_length p.columns p.rows =
    mul-le-mul_right (pitch p.columns) (omega (arith, c.requires.0)) in
    rw (c.starts.ensures, c.plane_index.ensures, c.extent-n.ensures) (
      row_reads (pitch p.columns) t (extent p.columns) rises refl (omega (arith, rows, held.room))
          (λ k h. held.samples k (omega (arith, rows))),
      i.narrow,
      omega (arith, i.row, i.right),
    )

pub returns : goal.returns
returns c =
    rw (c.starts.ensures, c.plane_index.ensures, c.extent-n.ensures, offsets (goal.at.returns c).After-luma_rows-r) at
    c.luma_row.ensures
