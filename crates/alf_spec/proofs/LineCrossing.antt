-- A read that does not cross the line-buffer boundary is the same where there is none; and no read of a chroma tap crosses it. So a chroma
-- filter may read as if there were no line. Assumes nothing.
use mathlib.Core.Path.{◌≡◌, refl, ap, ◌∙◌}
use mathlib.Core.Logic.{◌⊎◌, inl, inr, ⊎_elim, ◌≢◌, by_cases}
use mathlib.Core.Bool.{Bool, true, false, ◌&&◌, false≢true}
use mathlib.Core.List.{List}
use mathlib.Core.Option.{Option, some, none, map}
use Prim.Native.Nat.{ℕ, pred, ◌+◌, ◌-◌, ◌*◌, ◌/◌, ◌%◌, ◌≤◌, ◌<◌, min, max}
use native.Mathlib.Decide.{ℕ_discrete, dec_le}
use native.Mathlib.Omega.{arith}
use lib.Dec.{leb}
use borrow.Author.Tests.{leb-true, leb-false, le-ltb, ne_eqb}
use Rattle.alf_spec.specs.declared.Clip.{Clip}
use Rattle.alf_spec.specs.declared.ClipCause.{ClipCause}
use Rattle.alf_spec.specs.declared.ClipCause.TheVariants.{LineBufferBoundary}
use Rattle.alf_spec.specs.declared.ChromaRows.{ChromaRows}
use Rattle.alf_spec.specs.Input.{Layout, Input}
use Rattle.alf_spec.specs.Geometry.{Side, before, after, Axis, Plane, has_line, sub_width, sub_height, plane_of, chroma_plane, samples}
use Rattle.alf_spec.specs.Geometry.{luma_position, ctb_start, in_ctb, ctb_at, line_rule, bottom_distance}
use Rattle.alf_spec.specs.Boundary.{row_side, corner_disabled, only, ◌or_else◌, near, line_position, line_clip, virtual_clip, side_clip}
use Rattle.alf_spec.specs.Boundary.{clip, clip_position}
use Rattle.alf_spec.specs.Padding.{is_none, lowest, limit, clamped, ctb_end, past_ctb, column_clip, row_clip, clamped_column, clamped_row}
use Rattle.alf_spec.specs.Padding.{past_corner, padded_column, padded_row, read}
use Rattle.alf_spec.specs.Chroma.{chroma_rows, chroma_rows_at, chroma_read}
use Rattle.alf_spec.proofs.Tests.{both}
use Rattle.alf_spec.proofs.Axes.{Regular, upper, parts}
use Rattle.alf_spec.proofs.Ratios.{Ratio, whole, half, LineFits, no_line, chroma_ratios, chroma-line, own_le, own_lt}
use Rattle.alf_spec.proofs.Ratios.{lt_own}
use Rattle.alf_spec.proofs.IsolatedRegions.Clamping.{low, kept}
use Rattle.alf_spec.proofs.IsolatedRegions.ClipPositions.{Ends, stops, runs, Near, near_yes, Found, clip_found, bound8}

-- ---- along one axis

-- the axis without its line
abbrev pub unlined : Axis → Axis
unlined a = record { size = a.size; ctb = a.ctb; virtual_boundaries = a.virtual_boundaries; line = 0; ratio = a.ratio }

-- a neighbour, clamped to the plane
abbrev pub in_plane : Axis → ℕ → ℕ
in_plane a p = min p (pred (samples a))

-- the line is not crossed on the way from the plane's own sample x to its neighbour p
pub record Uncrossed (a : Axis) (x p : ℕ) : Type 0 where
  pub up : line_position a (luma_position a x) ≤ luma_position a x → line_position a (luma_position a x) ≤ luma_position a (in_plane a p)
  pub down : luma_position a x < line_position a (luma_position a x) → luma_position a (in_plane a p) < line_position a (luma_position a x)

-- the line b is found on that side of x
abbrev OnSide : Side → ℕ → ℕ → Type 0
OnSide before x b = b ≤ x
OnSide after x b = (x < b) × (b ≤ x + 4)

-- what the line's rule finds, if anything
data Lined (d : Side) (x b : ℕ) : Option Clip → Type 0 where
  lined : {c : Clip} → c.position ≡ b → OnSide d x b → Lined d x b (some c)
  unlined_here : Lined d x b none

only_lined : (d : Side) (x b : ℕ) (t : Bool) → (t ≡ true → OnSide d x b) → Lined d x b (only t LineBufferBoundary b)
only_lined d x b true f = lined refl (f refl)
only_lined d x b false f = unlined_here

abbrev position : Option Clip → Option ℕ
position o = map (λ c. c.position) o

-- the same clip position with the line and without, or the line
abbrev Differ : Side → ℕ → ℕ → Option ℕ → Option ℕ → Type 0
Differ d x b o o0 = (o ≡ o0) ⊎ ((o ≡ some b) × OnSide d x b)

line_first : (x b : ℕ) (n r : Option Clip) → Lined before x b n → Differ before x b (position (n or_else r)) (position r)
line_first x b _ r (lined e s) = inr (ap some e, s)
line_first x b _ r unlined_here = inl refl

line_second : (x b : ℕ) (w n r : Option Clip) → Lined after x b n → Differ after x b (position (w or_else (n or_else r)))
    (position (w or_else r))
line_second x b (some c) _ r l = inl refl
line_second x b none _ r (lined e s) = inr (ap some e, s)
line_second x b none _ r unlined_here = inl refl

module _ (a : Axis) (ok : Regular a) (side : Side → ClipCause) (x : ℕ) where
  line_lined : (d : Side) → Lined d x (line_position a x) (line_clip a x d)
  unfolding line_clip
  line_lined before = only_lined before x (line_position a x) _ (λ q.
      let l = leb-true (a.ctb - a.line) (in_ctb a x) (both (has_line a) (leb (a.ctb - a.line) (in_ctb a x)) q).1 in
      omega (arith, parts a x))
  line_lined after = only_lined after x (line_position a x) _ (λ q.
      near_yes after x (line_position a x) (both (has_line a) (near after x (line_position a x)) q).1)

  differ : (d : Side) → Differ d x (line_position a x) (clip_position a x side d) (clip_position (unlined a) x side d)
  unfolding clip_position clip line_clip virtual_clip side_clip
  differ before = line_first x (line_position a x) (line_clip a x before) _ (line_lined before)
  differ after = line_second x (line_position a x) (virtual_clip a x after) (line_clip a x after) _ (line_lined after)

-- two limits that are not reached
unreached : (m n w : ℕ) → w < m → w < n → min (pred m) w ≡ min (pred n) w
unreached m n w h k = omega arith

-- past no side of the CTB: t is at the line or after it, t is before it
not-before : (r : ℕ) → Ratio r → (start ctb line t : ℕ) → (start + (ctb - line)) / r ≤ t → start / r ≤ t
not-before _ whole start ctb line t h = omega arith
not-before _ half start ctb line t h = omega arith

not_after : (r : ℕ) → Ratio r → (start ctb line t : ℕ) → start % 8 ≡ 0 → ctb % 8 ≡ 0 → t < (start + (ctb - line)) / r
    → t ≤ pred (start / r + ctb / r)
not_after _ whole start ctb line t q k h = omega arith
not_after _ half start ctb line t q k h = omega arith

module _ (a : Axis) (ok : Regular a) (ratio : Ratio a.ratio) (fits : LineFits a.line) (side : Side → ClipCause) (x p : ℕ)
    (in_x : x < samples a)
    (un : Uncrossed a x p) where
  abbrev X : ℕ
  X = luma_position a x

  -- the neighbour, in the plane
  abbrev v : ℕ
  v = in_plane a p

  abbrev U : ℕ
  U = luma_position a v

  -- the line
  abbrev L : ℕ
  L = line_position a X

  line_even : L % 2 ≡ 0
  line_even = omega (arith, bound8 a ok X before, ok.ctb8, fits.0, fits.1, ok.big)

  -- the clip positions with the line, and without
  abbrev o : Side → Option ℕ
  o = clip_position a X side

  abbrev o0 : Side → Option ℕ
  o0 = clip_position (unlined a) X side

  ok0 : Regular (unlined a)
  ok0 = record { big = ok.big; ctb8 = ok.ctb8; size8 = ok.size8; virtual8 = ok.virtual8 }

  -- at the line or below it, what is found above without the line lies at the line or above it
  above : {N : Type 0} (c : Option ℕ) → L ≤ X → Ends (Found (unlined a) X side before) N c → lowest a c ≤ v
  above _ h (stops f) = own_le a.ratio _ v (by _ f.stop.1 f.place)
    where
      by : (e : ℕ) → e ≤ X → ((has_line (unlined a) ≡ true) × (e ≡ line_position (unlined a) X)) ⊎ ((e % 8 ≡ 0) × Near before X e) → e ≤ U
      by e l (inl q) = absurd (false≢true q.0)
      by e l (inr n) = omega (arith, un.up h, upper a ok X, bound8 a ok X before, ok.ctb8, ok.big, fits.1)
  above _ h (runs n) = omega arith

  -- above the line, what is found below without the line lies below it
  below : {N : Type 0} (c : Option ℕ) (w : ℕ) → X < L → L ≤ X + 4 → w < L / a.ratio → w < samples a
      → Ends (Found (unlined a) X side after) N c → w < limit a c
  below _ w h k g g' (stops f) = own_lt a.ratio ratio _ w f.stop.0 (by _ f.stop.1 f.place)
    where
      by : (e : ℕ) → X < e → ((has_line (unlined a) ≡ true) × (e ≡ line_position (unlined a) X)) ⊎ ((e % 8 ≡ 0) × Near after X e)
          → w * a.ratio < e
      by e l (inl q) = absurd (false≢true q.0)
      by e l (inr n) = omega (arith, lt_own a.ratio L w g, upper a ok X, bound8 a ok X before, ok.ctb8, ok.big, fits.1)
  below _ w h k g g' (runs n) = g'

  low_same : max (lowest a (o before)) v ≡ max (lowest a (o0 before)) v
  low_same = by (differ a ok side X before)
    where
      by : Differ before X L (o before) (o0 before) → max (lowest a (o before)) v ≡ max (lowest a (o0 before)) v
      by (inl e) = rw e
      by (inr e) =
          let l : L / a.ratio ≤ v = own_le a.ratio L v (un.up e.1) in
          let l0 = above (o0 before) e.1 (clip_found (unlined a) ok0 X no_line side before) in
          rw e.0 (omega arith)

  -- the neighbour, clamped on the one side
  abbrev w : ℕ
  w = max (lowest a (o before)) v

  high_same : min (pred (limit a (o after))) w ≡ min (pred (limit a (o0 after))) w
  high_same = by (differ a ok side X after)
    where
      by : Differ after X L (o after) (o0 after) → min (pred (limit a (o after))) w ≡ min (pred (limit a (o0 after))) w
      by (inl e) = rw e
      by (inr e) =
          let l = low a ok ratio fits side x p in_x in
          let x0 : x < L / a.ratio = own_lt a.ratio ratio L x line_even e.1.0 in
          let v0 : v < L / a.ratio = own_lt a.ratio ratio L v line_even (un.down e.1.0) in
          let w0 : w < L / a.ratio = omega arith in
          let w1 : w < samples a = omega arith in
          let h0 = below (o0 after) w e.1.0 e.1.1 w0 w1 (clip_found (unlined a) ok0 X no_line side after) in
          rw e.0 (unreached (L / a.ratio) (limit a (o0 after)) w w0 h0)

  pub clamped-same : clamped a o p ≡ clamped (unlined a) o0 p
  clamped-same = high_same ∙ ap (min (pred (limit a (o0 after)))) low_same

  -- where it stands
  abbrev t : ℕ
  t = clamped a o p

  held : (lowest a (o before) ≤ t) × (t < limit a (o after)) × (t < samples a)
  held = kept a ok ratio fits side x p in_x

  -- past the CTB there is no clip position with the line exactly where there is none without
  pub past_same : (d : Side) → (past_ctb a d x t && is_none (o d)) ≡ (past_ctb a d x t && is_none (o0 d))
  past_same before = by (differ a ok side X before)
    where
      by : Differ before X L (o before) (o0 before) → (past_ctb a before x t && is_none (o before)) ≡ (past_ctb a before x t
          && is_none (o0 before))
      by (inl e) = rw e
      by (inr e) =
          let l : L / a.ratio ≤ t = rw (← (ap (lowest a) e.0)) held.0 in
          rw (le-ltb t (ctb_end a before x) (not-before a.ratio ratio (ctb_start a X) a.ctb a.line t l))
  past_same after = by (differ a ok side X after)
    where
      by : Differ after X L (o after) (o0 after) → (past_ctb a after x t && is_none (o after)) ≡ (past_ctb a after x t && is_none (o0 after))
      by (inl e) = rw e
      by (inr e) =
          let l : t < L / a.ratio = rw (← (ap (limit a) e.0)) held.1 in
          rw (le-ltb (ctb_end a after x) t (not_after a.ratio ratio (ctb_start a X) a.ctb a.line t
          (bound8 a ok X before) ok.ctb8 l))

-- ---- reads

-- of the parts of the corner rule, those of the row
part_same : (c k rest b b0 : Bool) {r r0 : Bool} → r ≡ r0 → (r && b) ≡ (r && b0)
    → (c && (r && (k && (b && rest)))) ≡ (c && (r0 && (k && (b0 && rest))))
part_same c k rest b b0 {r = true} h e = rw (← h, e)
part_same c k rest b b0 {r = false} h e = rw (← h)

module _ (l : Layout) (column_ratio row_ratio line : ℕ) (ok : Regular (plane_of l column_ratio row_ratio line).rows) (rr : Ratio row_ratio)
    (rl : LineFits line) (x y p q : ℕ)
    (in_y : y < samples (plane_of l column_ratio row_ratio line).rows) (un : Uncrossed (plane_of l column_ratio row_ratio line).rows y q) where
  abbrev g : Plane
  g = plane_of l column_ratio row_ratio line

  -- the plane without the line
  abbrev g0 : Plane
  g0 = plane_of l column_ratio row_ratio 0

  row_same : clamped_row l g x y p q ≡ clamped_row l g0 x y p q
  unfolding row_clip plane_of
  row_same = clamped-same g.rows ok rr rl (row_side l (ctb_at g x y)) y q in_y un

  corner_same : (d : Side) → past_corner l g x y p q d ≡ past_corner l g0 x y p q d
  unfolding past_corner row_clip column_clip plane_of
  corner_same d =
      part_same (past_ctb g.columns d x (clamped_column l g x y p q)) (is_none (column_clip l g x y d)) (corner_disabled l (ctb_at g x y) d)
      (is_none (row_clip l g x y d)) (is_none (row_clip l g0 x y d)) (ap (past_ctb g.rows d y) row_same)
      (past_same g.rows ok rr rl (row_side l (ctb_at g x y)) y q in_y un d)

  pub read_apart : (plane : List ℕ) → read l g x y plane p q ≡ read l g0 x y plane p q
  unfolding read padded_column padded_row column_clip plane_of
  read_apart plane = rw (corner_same before, corner_same after, row_same)

-- ---- chroma

-- Table 46: how far the taps of the row at distance d from the CTB's bottom reach
table : (d : ℕ) → ((d ≤ 2) × ((chroma_rows true d).y2 + d ≤ 2)) ⊎ ((3 ≤ d) × ((chroma_rows true d).y2 + 3 ≤ d))
unfolding chroma_rows
table d =
    by_cases (ℕ_discrete d 2) (λ (e : d ≡ 2). rw e (inl (omega arith)))
    (λ n2. by_cases (ℕ_discrete d 3) (λ (e : d ≡ 3). rw e (inr (omega arith)))
    (λ n3. by_cases (ℕ_discrete d 1) (λ (e : d ≡ 1). rw e (inl (omega arith)))
    (λ n1. by_cases (ℕ_discrete d 4) (λ (e : d ≡ 4). rw e (inr (omega arith)))
    (λ n4. simp (ne_eqb d 2 n2, ne_eqb d 3 n3, ne_eqb d 1 n1, ne_eqb d 4 n4) (rest d n2 n3 n1 n4)))))
  where
    rest : (d : ℕ) → d ≢ 2 → d ≢ 3 → d ≢ 1 → d ≢ 4 → ((d ≤ 2) × (2 + d ≤ 2)) ⊎ ((3 ≤ d) × (5 ≤ d))
    rest d n2 n3 n1 n4 = by_cases (dec_le d 2) (λ l. inl (omega arith)) (λ l. inr (omega arith))

-- a row y at distance d, in a CTB that begins at b, of s luma rows; i of them lie above the row
module _ (b s i y q n m : ℕ) (b8 : b % 8 ≡ 0) (s8 : s % 8 ≡ 0) (big : 8 ≤ s) (in_ctb : i < s) (near : y ≤ q + n) (near' : q ≤ y + n)
    (in_m : y < m) where
  -- at the line or below it
  stays_below : (r : ℕ) → Ratio r → b + i ≡ y * r → s / r - i / r ≤ 2 → n + (s / r - i / r) ≤ 2
      → (b + (s - 2 * r) ≤ y * r) × (b + (s - 2 * r) ≤ min q (pred m) * r)
  stays_below _ whole e h k = let l : y ≤ min q (pred m) + n = omega arith in omega arith
  stays_below _ half e h k = let l : y ≤ min q (pred m) + n = omega arith in omega arith

  -- above it
  stays_above : (r : ℕ) → Ratio r → b + i ≡ y * r → 3 ≤ s / r - i / r → n + 3 ≤ s / r - i / r
      → (y * r < b + (s - 2 * r)) × (min q (pred m) * r < b + (s - 2 * r))
  stays_above _ whole e h k = let l : min q (pred m) ≤ y + n = omega arith in omega arith
  stays_above _ half e h k = let l : min q (pred m) ≤ y + n = omega arith in omega arith

module _ (l : Layout) (regular : Regular (chroma_plane l).rows) (y q : ℕ) (in_y : y < samples (chroma_plane l).rows) where
  abbrev rows : Axis
  rows = (chroma_plane l).rows

  abbrev Y : ℕ
  Y = luma_position rows y

  -- Table 46 at row y
  abbrev table_row : ChromaRows
  table_row = chroma_rows (line_rule rows Y) (bottom_distance rows y)

  ratio : Ratio rows.ratio
  unfolding plane_of
  ratio = (chroma_ratios l.picture).1

  -- the neighbours that the taps of row y read do not lie across the line
  pub chroma_uncrossed : y ≤ q + table_row.y2 → q ≤ y + table_row.y2 → Uncrossed rows y q
  unfolding line_rule bottom_distance plane_of
  chroma_uncrossed = by (line_rule rows Y) refl
    where
      by : (t : Bool) → line_rule rows Y ≡ t → y ≤ q + (chroma_rows t (bottom_distance rows y)).y2
          → q ≤ y + (chroma_rows t (bottom_distance rows y)).y2
          → Uncrossed rows y q
      by true e h k = ⊎_elim
          (λ d. let z = stays_below (ctb_start rows Y) rows.ctb (in_ctb rows Y) y q _ (samples rows) (bound8 rows regular Y before)
          regular.ctb8 regular.big (omega (arith, parts rows Y, upper rows regular Y)) h k in_y rows.ratio ratio (parts rows Y)
          d.0 d.1 in
          record { up = λ _. z.1; down = λ g. absurd (omega arith) })
          (λ d. let z = stays_above (ctb_start rows Y) rows.ctb (in_ctb rows Y) y q _ (samples rows) (bound8 rows regular Y before)
          regular.ctb8 regular.big (omega (arith, parts rows Y, upper rows regular Y)) h k in_y rows.ratio ratio (parts rows Y)
          d.0 d.1 in
          record { up = λ g. absurd (omega arith); down = λ _. z.1 })
          (table (bottom_distance rows y))
      by false e h k =
          let part = leb-false (ctb_start rows Y + rows.ctb) rows.size e in
          let b8 : ctb_start rows Y % 8 ≡ 0 = bound8 rows regular Y before in
          let past : rows.size ≤ line_position rows Y = omega (arith, (chroma-line ratio).1, regular.size8, regular.ctb8, regular.big) in
          let here = lt_own rows.ratio rows.size y in_y in
          let there = lt_own rows.ratio rows.size (in_plane rows q) (omega arith) in
          record { up = λ g. absurd (omega arith); down = λ g. omega arith }

-- what a chroma tap reads is what it reads in a plane without the line
pub chroma-read : (i : Input) → Regular (chroma_plane i.layout).rows → (component x y : ℕ)
    → y < samples (chroma_plane i.layout).rows → (p q : ℕ)
    → y ≤ q + (chroma_rows_at i component x y).y2 → q ≤ y + (chroma_rows_at i component x y).y2
    → chroma_read i component x y (p, q)
    ≡ read i.layout (plane_of i.layout (sub_width i.layout.picture) (sub_height i.layout.picture) 0) x y i.chroma p q
chroma-read i ok component x y in_y p q h k =
    let ratios = chroma_ratios i.layout.picture in
    read_apart i.layout _ _ _ ok ratios.1 (chroma-line ratios.1) x y p q in_y
    (chroma_uncrossed i.layout ok y q in_y h k) i.chroma
