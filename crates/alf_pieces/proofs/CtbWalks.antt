-- A walk over all pieces of a CTB: what it has passed grows by one piece, and in the end it is the CTB. Assumes nothing.
use mathlib.Core.Path.{◌≡◌, refl}
use mathlib.Core.Logic.{inl, inr}
use mathlib.Core.Bool.{Bool, true, false, ◌||◌, or-false}
use mathlib.Core.List.{List}
use Prim.Native.Nat.{ℕ, zero, suc, ◌+◌, ◌-◌, ◌*◌, ◌/◌, ◌≤◌, ◌<◌}
use native.Mathlib.Nat.{div-zero, div-mul-le_self, le-div_iff_mul-le}
use native.Mathlib.Omega.{arith}
use Rattle.std.specs.Prelude.{Option, Some, None}
use Rattle.alf_spec.specs.Lists.{painted}
use Rattle.alf_lists.specs.Regions.{in_rect}
use Rattle.alf_lists.proofs.Painted.{paint_is, paint_of, paint_none, paint_call}
use Rattle.alf_lists.proofs.Regions.{rect_none, rect_beside, rect_stacked}
use Rattle.alf_pieces.specs.declared.walks.CtbWalk.{CtbWalk}
use Rattle.alf_pieces.specs.Pieces.{limit_along}
use Rattle.alf_pieces.specs.Walks.{Axes, StandsAt, beside, below, Follows, in_piece, passed_at, passed}

-- positions in order are, in the samples of a plane, still in order
div_order : (ratio a b : ℕ) → a ≤ b → a / ratio ≤ b / ratio
div_order zero a b h = simp div-zero (omega arith)
div_order (suc r) a b h =
    (le-div_iff_mul-le {k = suc r} {x = a / suc r} (omega arith)).1 (omega (arith, div-mul-le_self a (suc r)))

-- ---- rectangles

or_assoc : (a b c : Bool) → (a || (b || c)) ≡ ((a || b) || c)
or_assoc true b c = refl
or_assoc false b c = refl

module _ (width l r t x y y' k : ℕ) (low : l ≤ x) where
  grow_beside : (x' : ℕ) → x ≤ x'
      → (in_rect width l r t y k || in_rect width l x' y y' k)
      ≡ ((in_rect width l r t y k || in_rect width l x y y' k) || in_rect width x x' y y' k)
  grow_beside x' high = rw (rect_beside width l x x' y y' low high k)
      (or_assoc (in_rect width l r t y k) (in_rect width l x y y' k) (in_rect width x x' y y' k))

  grow_rows : x ≤ r → t ≤ y → y ≤ y'
      → in_rect width l r t y' k ≡ ((in_rect width l r t y k || in_rect width l x y y' k) || in_rect width x r y y' k)
  grow_rows high top down =
      rw (rect_stacked width l r t y y' top down k, rect_beside width l x r y y' low high k)
      (or_assoc (in_rect width l r t y k) (in_rect width l x y y' k) (in_rect width x r y y' k))

  grow_below : (x' y'' : ℕ) → x ≤ r → t ≤ y → y ≤ y' → x' ≤ l
      → (in_rect width l r t y' k || in_rect width l x' y' y'' k)
      ≡ ((in_rect width l r t y k || in_rect width l x y y' k) || in_rect width x r y y' k)
  grow_below x' y'' high top down none =
      rw (rect_none width l x' y' y'' k (inl none), or-false (in_rect width l r t y' k)) (grow_rows high top down)

-- ---- the walk

-- how much is left of it: nothing, where it is over
abbrev pub ahead : Axes → Option CtbWalk → ℕ
ahead x (Some w) = (limit_along x.rows - w.rows.start) * 4097 + (limit_along x.columns - w.columns.start)
ahead x None = 0

module _ {x : Axes} {w : CtbWalk} (s : StandsAt x w) where
  pub ahead_less : (next : Option CtbWalk) → x.columns.size ≤ 4096 → Follows x w next → ahead x next < ahead x (Some w)
  ahead_less (Some v) small (beside e f) = rw (e, f) (omega (arith, s.across.blocks.numbers.filled, s.across.next.upto))
  ahead_less (Some v) small (below e f g) = omega (arith, e, f, g, s.down.blocks.numbers.filled, s.down.next.upto)
  ahead_less None small e = omega (arith, s.across.blocks.numbers.filled, s.across.next.upto)

  module _ (width column_ratio row_ratio : ℕ) where
    grows : (next : Option CtbWalk) → Follows x w next → (k : ℕ) → passed width column_ratio row_ratio x next k
        ≡ (passed_at width column_ratio row_ratio x w k || in_piece width column_ratio row_ratio w.columns w.rows k)
    grows (Some v) (beside e f) k =
        rw (e, f) (grow_beside width _ _ _ _ _ _ k (div_order column_ratio _ _ s.columns.from) _
        (div_order column_ratio _ _ (omega (arith, s.across.blocks.numbers.filled))))
    grows (Some v) (below e f g) k =
        rw (e, f, g) (grow_below width _ _ _ _ _ _ k (div_order column_ratio _ _ s.columns.from) _ _
        (div_order column_ratio _ _ s.columns.upto) (div_order row_ratio _ _ s.rows.from)
        (div_order row_ratio _ _ (omega (arith, s.down.blocks.numbers.filled))) (omega arith))
    grows None (e, f) k =
        rw (← f, e) (grow_rows width _ _ _ _ _ _ k (div_order column_ratio _ _ s.columns.from)
        (div_order column_ratio _ _ s.columns.upto) (div_order row_ratio _ _ s.rows.from)
        (div_order row_ratio _ _ (omega (arith, s.down.blocks.numbers.filled))))

    pub passed-next : (next : Option CtbWalk) → Follows x w next → (value : ℕ → ℕ) (old : List ℕ) {ys zs : List ℕ}
        → ys ≡ painted old (passed_at width column_ratio row_ratio x w) value
        → zs ≡ painted ys (in_piece width column_ratio row_ratio w.columns w.rows) value
        → zs ≡ painted old (passed width column_ratio row_ratio x next) value
    passed-next next follows value old so_far e =
        paint_is (paint_call _ value (paint_of so_far) e (λ k h t. refl) (λ k h. grows next follows k))

-- before the first piece
pub passed_none : (x : Axes) (w : CtbWalk) (width column_ratio row_ratio : ℕ) (value : ℕ → ℕ) (old : List ℕ)
    → w.columns.start ≡ x.columns.place * x.columns.ctb → w.rows.start ≡ x.rows.place * x.rows.ctb
    → old ≡ painted old (passed_at width column_ratio row_ratio x w) value
passed_none x w width column_ratio row_ratio value old e f =
    paint_is (paint_none (λ k. rw (e, f) (rw (
      rect_none width (x.columns.place * x.columns.ctb / column_ratio) (limit_along x.columns / column_ratio)
          (x.rows.place * x.rows.ctb / row_ratio) (x.rows.place * x.rows.ctb / row_ratio) k (inr (omega arith)),
      rect_none width (x.columns.place * x.columns.ctb / column_ratio) (x.columns.place * x.columns.ctb / column_ratio)
          (x.rows.place * x.rows.ctb / row_ratio) (w.rows.end / row_ratio) k (inl (omega arith)),
    ))))
