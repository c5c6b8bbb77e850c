-- What a filter reads for a sample inside an isolated region lies inside. Assumes nothing.
use mathlib.Core.Path.{◌≡◌, refl, ap}
use mathlib.Core.Logic.{◌≢◌, by_cases}
use mathlib.Core.Bool.{Bool, true, false, cond}
use mathlib.Core.List.{List}
use Prim.Native.Nat.{ℕ, ◌/◌}
use native.Mathlib.Decide.{dec_le}
use native.Mathlib.Omega.{arith}
use Rattle.alf_spec.specs.Input.{Layout}
use Rattle.alf_spec.specs.Geometry.{Side, before, after, Plane, plane_of, luma_position, ctb_at}
use Rattle.alf_spec.specs.Boundary.{column_side, column_disabled, row_side, row_disabled, corner_disabled}
use Rattle.alf_spec.specs.Padding.{is_none, ctb_end, past_ctb, column_clip, row_clip, clamped_column, clamped_row, past_corner, padded_column}
use Rattle.alf_spec.specs.Padding.{padded_row, read}
use Rattle.alf_spec.specs.Isolation.{isolated}
use Rattle.alf_spec.proofs.Tests.{both, and_no}
use Rattle.alf_spec.proofs.Accepted.{AcceptedLayout}
use Rattle.alf_spec.proofs.Axes.{Regular, regular_columns, regular_rows}
use Rattle.alf_spec.proofs.IsolatedRegions.Clamping.{guarded, crossed}
use Rattle.alf_spec.proofs.IsolatedRegions.PastCtb.{past_other, past_side, end_uncut}
use Rattle.alf_spec.proofs.Ratios.{Ratio, LineFits, no_line, own_lt, lt_own, Toward}
use Rattle.alf_spec.proofs.IsolatedRegions.Crossing.{arrive}
use Rattle.alf_spec.proofs.IsolatedRegions.StepsStayInside.{LumaInside}
use Rattle.alf_spec.proofs.IsolatedRegions.Inside.{Inside, SameInside}
use Rattle.alf_spec.proofs.IsolatedRegions.Reach.{Reach, SameReads}
use Rattle.alf_spec.proofs.IsolatedRegions.ReadPaths.{Guarded, ReadPath, here, over, read_path}

module _ (l : Layout) (ok : AcceptedLayout l) (region : List ℕ) (iso : isolated l region ≡ true) (column_ratio row_ratio line : ℕ)
    (rc : Ratio column_ratio) (rr : Ratio row_ratio) (rl : LineFits line) where
  abbrev g : Plane
  g = plane_of l column_ratio row_ratio line

  ok_x : Regular g.columns
  ok_x = regular_columns l ok column_ratio row_ratio line

  ok_y : Regular g.rows
  ok_y = regular_rows l ok column_ratio row_ratio line

  ratio_x : Ratio g.columns.ratio
  unfolding plane_of
  ratio_x = rc

  ratio_y : Ratio g.rows.ratio
  unfolding plane_of
  ratio_y = rr

  line_x : LineFits g.columns.line
  unfolding plane_of
  line_x = no_line

  line_y : LineFits g.rows.line
  unfolding plane_of
  line_y = rl

  -- the plane's own samples and their luma positions
  to_luma : (x y : ℕ) → Inside l region g x y → LumaInside l region (luma_position g.columns x) (luma_position g.rows y)
  unfolding plane_of
  to_luma x y i = record {
    column = lt_own g.columns.ratio g.columns.size x i.column;
    row = lt_own g.rows.ratio g.rows.size y i.row;
    position = i.position;
  }

  to_own : (x y : ℕ) → LumaInside l region (luma_position g.columns x) (luma_position g.rows y) → Inside l region g x y
  unfolding plane_of
  to_own x y h = record {
    column = own_lt g.columns.ratio ratio_x g.columns.size x (omega (arith, ok_x.size8)) h.column;
    row = own_lt g.rows.ratio ratio_y g.rows.size y (omega (arith, ok_y.size8)) h.row;
    position = h.position;
  }

  module _ (x y p q : ℕ) (i : Inside l region g x y)
      (rx : Reach (luma_position g.columns x) (luma_position g.columns p))
      (ry : Reach (luma_position g.rows y) (luma_position g.rows q))
      (d e : Side) (tx : Toward d x p) (ty : Toward e y q) where
    abbrev X : ℕ
    X = luma_position g.columns x

    abbrev Y : ℕ
    Y = luma_position g.rows y

    -- before the corner rule
    abbrev u : ℕ
    u = clamped_column l g x y p q

    abbrev v : ℕ
    v = clamped_row l g x y p q

    guarded_x : Guarded g.columns (column_disabled l (ctb_at g x y)) d X (luma_position g.columns u)
    unfolding column_clip
    guarded_x = guarded g.columns ok_x ratio_x line_x (column_side l (ctb_at g x y)) x p i.column d tx rx

    guarded_y : Guarded g.rows (row_disabled l (ctb_at g x y)) e Y (luma_position g.rows v)
    unfolding row_clip
    guarded_y = guarded g.rows ok_y ratio_y line_y (row_side l (ctb_at g x y)) y q i.row e ty ry

    path_x : ReadPath g.columns (column_disabled l (ctb_at g x y)) d X (luma_position g.columns u)
    path_x =
        read_path g.columns ok_x (column_disabled l (ctb_at g x y)) d X (luma_position g.columns u)
        (lt_own g.columns.ratio g.columns.size x i.column) guarded_x

    path_y : ReadPath g.rows (row_disabled l (ctb_at g x y)) e Y (luma_position g.rows v)
    path_y =
        read_path g.rows ok_y (row_disabled l (ctb_at g x y)) e Y (luma_position g.rows v)
        (lt_own g.rows.ratio g.rows.size y i.row) guarded_y

    -- the corner rule keeps the column within the CTB
    back : (f : Side) → d ≡ f → X / g.columns.ctb ≢ luma_position g.columns u / g.columns.ctb
        → ReadPath g.columns (column_disabled l (ctb_at g x y)) d X (luma_position g.columns u)
        → LumaInside l region (luma_position g.columns (ctb_end g.columns f x)) (luma_position g.rows v)
    unfolding plane_of
    back f s ne (here c) = absurd (ne c.ctb)
    back f s ne (over m o) =
        let c = end_uncut g.columns ok_x ratio_x d x m o.at_end o.inner in
        rw (← s)
        (arrive l ok column_ratio row_ratio line region iso d e X Y _ _ (to_luma x y i) (here c) path_y (λ n _ _. absurd (n c.ctb)))

    moved : (f : Side) → past_corner l g x y p q f ≡ true
        → LumaInside l region (luma_position g.columns (ctb_end g.columns f x)) (luma_position g.rows v)
    unfolding past_corner
    moved f t =
        let past = (both (past_ctb g.columns f x u) _ t).0 in
        back f (past_side g.columns ok_x ratio_x x u d f guarded_x.toward past) (past_other g.columns ok_x ratio_x x u f past) path_x

    -- where both sides are crossed and the corner rule does not apply, the corner is not disabled
    uncornered : past_corner l g x y p q d ≡ false → X / g.columns.ctb ≢ luma_position g.columns u / g.columns.ctb
        → Y / g.rows.ctb ≢ luma_position g.rows v / g.rows.ctb → d ≡ e → corner_disabled l (ctb_at g x y) d ≡ false
    unfolding past_corner column_clip row_clip
    uncornered t nx ny s =
        let cx = crossed g.columns ok_x ratio_x line_x (column_side l (ctb_at g x y)) x p i.column d tx rx nx in
        let cy = crossed g.rows ok_y ratio_y line_y (row_side l (ctb_at g x y)) y q i.row e ty ry ny in
        let past_y : past_ctb g.rows d y v ≡ true = rw s cy.1 in
        let none_y : is_none (row_clip l g x y d) ≡ true = rw s (ap is_none cy.0) in
        and_no _ _ (and_no _ _ (and_no _ _ (and_no _ _ t cx.1) past_y) (ap is_none cx.0)) none_y

    padded : (s t : Bool) → past_corner l g x y p q before ≡ s → past_corner l g x y p q after ≡ t
        → LumaInside l region (luma_position g.columns (cond s (ctb_end g.columns before x) (cond t (ctb_end g.columns after x) u)))
        (luma_position g.rows v)
    unfolding plane_of
    padded true t h k = moved before h
    padded false true h k = moved after k
    padded false false h k = arrive l ok column_ratio row_ratio line region iso d e X Y _ _ (to_luma x y i) path_x path_y
        (uncornered (neither d h k))
      where
        neither : (f : Side) → past_corner l g x y p q before ≡ false → past_corner l g x y p q after ≡ false
            → past_corner l g x y p q f ≡ false
        neither before h k = h
        neither after h k = k

    luma-read : LumaInside l region (luma_position g.columns (padded_column l g x y p q)) (luma_position g.rows (padded_row l g x y p q))
    unfolding padded_column padded_row
    luma-read = padded (past_corner l g x y p q before) (past_corner l g x y p q after) refl refl

  -- on whichever side the neighbour lies
  inside-read : (x y p q : ℕ) → Inside l region g x y
      → Reach (luma_position g.columns x) (luma_position g.columns p) → Reach (luma_position g.rows y) (luma_position g.rows q)
      → Inside l region g (padded_column l g x y p q) (padded_row l g x y p q)
  inside-read x y p q i rx ry =
      to_own (padded_column l g x y p q) (padded_row l g x y p q)
      (by_cases (dec_le p x)
      (λ h. by_cases (dec_le q y) (λ k. luma-read x y p q i rx ry before before h k)
      (λ k. luma-read x y p q i rx ry before after h (omega arith)))
      (λ h. by_cases (dec_le q y) (λ k. luma-read x y p q i rx ry after before (omega arith) k)
      (λ k. luma-read x y p q i rx ry after after (omega arith) (omega arith))))

  -- planes that are the same inside give the same reads
  pub same_reads : (plane plane' : List ℕ) → SameInside l region g plane plane' → SameReads l region g plane plane'
  unfolding read
  same_reads plane plane' same x y i p q rx ry = same (padded_column l g x y p q) (padded_row l g x y p q) (inside-read x y p q i rx ry)
