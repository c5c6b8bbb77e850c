-- The copy of a piece holds, for every sample of the piece and every neighbour in reach, the sample at the padded position. Assumes
-- nothing.
use mathlib.Core.Path.{◌≡◌, refl, sym, ap, ap₂, ◌∙◌}
use mathlib.Core.Bool.{Bool, true, false, true≢false, ◌&&◌, and-false, cond}
use mathlib.Core.List.{List}
use mathlib.Core.Option.{Option}
use Prim.Native.Nat.{ℕ, zero, suc, ◌+◌, ◌-◌, ◌/◌, ◌<◌}
use native.Mathlib.Nat.{not-suc-le-zero, div-zero, zero-lt-suc, mul-le-mul_right}
use native.Mathlib.Omega.{arith}
use lib.Dec.{leb, ltb}
use lib.ListN.{get_or}
use borrow.Author.Tests.{ltb-true, ltb-false, leb-true, leb-false, lt-leb}
use Rattle.alf_spec.specs.declared.ClipCause.{ClipCause}
use Rattle.alf_spec.specs.declared.Ctb.{Ctb}
use Rattle.alf_spec.specs.declared.Sides.{Sides}
use Rattle.alf_spec.specs.Input.{Layout}
use Rattle.alf_spec.specs.Geometry.{Side, before, after, Axis, Plane, plane_of, samples, luma_position, index_of, ctb_at}
use Rattle.alf_spec.specs.Boundary.{column_side, row_side, corner_disabled, clip_position}
use Rattle.alf_spec.specs.Padding.{is_none, clamped, ctb_end, past_ctb, column_clip, row_clip, clamped_column, clamped_row, past_corner}
use Rattle.alf_spec.specs.Padding.{padded_column, padded_row, read}
use Rattle.alf_spec.proofs.Tests.{both, and_same}
use Rattle.alf_spec.proofs.Axes.{ctb_of_lem}
use Rattle.alf_boundary.specs.Tables.{SidesOf}
use Rattle.alf_pieces.specs.declared.pieces.Piece.{Piece}
use Rattle.alf_pieces.specs.Pieces.{PieceIn}
use Rattle.alf_pieces.specs.Copies.{held, copied, copy_row, copy_column, row_lowest, row_limit}
use Rattle.alf_pieces.proofs.PieceFacts.{past_piece, outer, InPiece, Facts}

-- ---- along one axis

-- where the plane has samples, its ratio is not 0
ratio_positive : (r n k : ℕ) → k < n / r → 0 < r
ratio_positive zero n k h = absurd (not-suc-le-zero (rw div-zero at h))
ratio_positive (suc r) n k h = zero-lt-suc r

module _ (a : Axis) (side : Side → ClipCause) (n : ℕ) (piece : Piece) (facts : Facts a side n piece) (x u : ℕ)
    (in-piece : InPiece a piece x u) where
  -- a sample of a piece of a CTB lies in that CTB
  ctb-is : luma_position a x / a.ctb ≡ n
  ctb-is =
      let filled : piece.start < samples a = omega (arith, facts.numbers.filled, facts.numbers.high, facts.numbers.inside) in
      let positive = ratio_positive a.ratio a.size piece.start filled in
      ctb_of_lem a n (luma_position a x)
      (omega (arith, facts.from, mul-le-mul_right a.ratio in-piece.low))
      (omega (arith, facts.upto, mul-le-mul_right a.ratio in-piece.high))

  -- what `Facts` says of the sample's clip positions, wherever they come from
  module _ (clip : Side → Option ℕ) (e : clip ≡ clip_position a (luma_position a x) side) where
    clamped-is : clamped a clip u ≡ held piece.lowest piece.limit u
    clamped-is = rw e (facts.reads x u in-piece)

    past_is : (d : Side) → (past_ctb a d x (clamped a clip u) && is_none (clip d)) ≡ past_piece d piece (held piece.lowest piece.limit u)
    past_is d =
        and_same (ap (λ (w : ℕ). past_ctb a d x w) clamped-is) (ap (λ (clip : Side → Option ℕ). is_none (clip d)) e)
        ∙ facts.past x u in-piece d

-- ---- the corners

-- the conjuncts of `past_corner`, by axis
by_axis : (a b c d e : Bool) → (a && (b && (c && (d && e)))) ≡ ((e && (b && d)) && (a && c))
by_axis true true true true true = refl
by_axis true true true true false = refl
by_axis true true true false true = refl
by_axis true true true false false = refl
by_axis true true false d e = sym (and-false (e && d))
by_axis true false c d true = refl
by_axis true false c d false = refl
by_axis false b c d e = sym (and-false (e && (b && d)))

-- past a corner across which filtering is disabled, a read is held to the piece's own columns: what lies past them moves to the column at
-- that end, and the rest stays
module _ (n : ℕ) (piece : Piece) (numbers : PieceIn n piece) (p : ℕ) (ends : Side → ℕ)
    (edge : (d : Side) → past_piece d piece (held piece.lowest piece.limit p) ≡ true → ends d ≡ outer d piece) where
  abbrev u : ℕ
  u = held piece.lowest piece.limit p

  upper_left_lem : (b : Bool) → past_piece before piece u ≡ b → held piece.start piece.limit p ≡ cond b (ends before) u
  upper_left_lem true e =
      let past = ltb-true u piece.start e in
      let at = edge before e in
      omega (arith, numbers.filled, numbers.high)
  upper_left_lem false e =
      let within = ltb-false u piece.start e in
      omega (arith, numbers.low)

  lower_right_lem : (b : Bool) → past_piece after piece u ≡ b → held piece.lowest piece.end p ≡ cond b (ends after) u
  lower_right_lem true e =
      let past = leb-true piece.end u e in
      let at = edge after e in
      omega (arith, numbers.low, numbers.filled, numbers.high)
  lower_right_lem false e =
      let within = leb-false piece.end u e in
      omega (arith, numbers.high)

  corner_moves : (upper lower : Bool) → (upper ≡ true → lower ≡ false)
      → held (cond upper piece.start piece.lowest) (cond lower piece.end piece.limit) p
      ≡ cond (upper && past_piece before piece u) (ends before) (cond (lower && past_piece after piece u) (ends after) u)
  corner_moves true true apart = absurd (true≢false (apart refl))
  corner_moves true false apart = upper_left_lem _ refl
  corner_moves false true apart = lower_right_lem _ refl
  corner_moves false false apart = refl

-- the plane of a layout with these ratios to luma, and a piece of its columns and one of its rows, both of the CTB c
module _ (l : Layout) (c : Ctb) (s : Sides) (sides : SidesOf l c s) (column_ratio row_ratio line : ℕ) (columns rows : Piece)
    (across : Facts (plane_of l column_ratio row_ratio line).columns (column_side l c) c.column columns)
    (down : Facts (plane_of l column_ratio row_ratio line).rows (row_side l c) c.row rows) where
  -- the plane
  abbrev g : Plane
  g = plane_of l column_ratio row_ratio line

  -- a sample of the piece, and its neighbour
  module _ (x y p q : ℕ) (in-columns : InPiece g.columns columns x p) (in_rows : InPiece g.rows rows y q) where
    -- the neighbour's row, clamped
    abbrev v : ℕ
    v = held rows.lowest rows.limit q

    pub own_ctb : ctb_at (plane_of l column_ratio row_ratio line) x y ≡ c
    own_ctb = rw (ctb-is g.columns _ c.column columns across x p in-columns, ctb-is g.rows _ c.row rows down y q in_rows)

    column-clip : column_clip l g x y ≡ clip_position g.columns (luma_position g.columns x) (column_side l c)
    unfolding column_clip
    column-clip = ap (λ (c : Ctb). clip_position g.columns (luma_position g.columns x) (column_side l c)) own_ctb

    row-clip : row_clip l g x y ≡ clip_position g.rows (luma_position g.rows y) (row_side l c)
    unfolding row_clip
    row-clip = ap (λ (c : Ctb). clip_position g.rows (luma_position g.rows y) (row_side l c)) own_ctb

    corner_is : (d : Side)
        → past_corner l g x y p q d
        ≡ ((corner_disabled l c d && past_piece d rows v) && past_piece d columns (held columns.lowest columns.limit p))
    unfolding past_corner
    corner_is d =
        by_axis (past_ctb g.columns d x (clamped_column l g x y p q)) (past_ctb g.rows d y (clamped_row l g x y p q))
        (is_none (column_clip l g x y d)) (is_none (row_clip l g x y d)) (corner_disabled l (ctb_at g x y) d)
        ∙ and_same
        (and_same (ap (λ (c : Ctb). corner_disabled l c d) own_ctb) (past_is g.rows _ c.row rows down y q in_rows _ row-clip d))
        (past_is g.columns _ c.column columns across x p in-columns _ column-clip d)

    -- a row above the piece is not below it
    one_corner : (s.upper_left && ltb v rows.start) ≡ true → (s.lower_right && leb rows.end v) ≡ false
    one_corner h =
        let above = ltb-true v rows.start (both s.upper_left (ltb v rows.start) h).1 in
        rw (lt-leb rows.end v (omega (arith, down.numbers.filled))) (and-false s.lower_right)

    column-is : held (row_lowest columns rows s v) (row_limit columns rows s v) p ≡ padded_column l g x y p q
    unfolding padded_column row_lowest row_limit
    column-is = rw (
      corner_is before,
      corner_is after,
      clamped-is g.columns _ c.column columns across x p in-columns _ column-clip,
      ← sides.upper_left,
      ← sides.lower_right,
    )
        (corner_moves _ columns across.numbers p (λ d. ctb_end g.columns d x) (across.edge x p in-columns) _ _ one_corner)

    row_is : v ≡ padded_row l g x y p q
    unfolding padded_row
    row_is = sym (clamped-is g.rows _ c.row rows down y q in_rows _ row-clip)

  -- the sample at (x, y) of the piece, and its neighbour at (p, q), which stands at column i and row j of the copy
  pub copy_reads : (x y p q i j : ℕ)
      → InPiece (plane_of l column_ratio row_ratio line).columns columns x p → InPiece (plane_of l column_ratio row_ratio line).rows rows y q
      → p ≡ columns.start + i - 3 → q ≡ rows.start + j - 3 → (plane : List ℕ)
      → copied columns rows s plane (samples (plane_of l column_ratio row_ratio line).columns) i j ≡ read l
      (plane_of l column_ratio row_ratio line) x y plane p q
  unfolding copied copy_row copy_column read
  copy_reads x y p q i j in_columns in_rows ep eq plane =
      rw (← ep, ← eq)
      (ap₂ (λ (row column : ℕ). get_or plane (index_of g column row) 0) (row_is x y p q in_columns in_rows) (column-is x y p q in_columns in_rows))
