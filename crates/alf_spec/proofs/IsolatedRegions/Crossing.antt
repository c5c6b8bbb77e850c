-- Two axes: what is read for a sample inside an isolated region lies inside, where a path along each axis leads to it: along uncut
-- stretches and over at most one side or corner of a CTB. Assumes nothing.
use mathlib.Core.Path.{◌≡◌, refl, sym, ◌∙◌, subst₂}
use mathlib.Core.Logic.{◌≢◌}
use mathlib.Core.Bool.{Bool, true, false, not, ◌&&◌}
use mathlib.Core.List.{List, Memᴰ}
use Prim.Native.Nat.{ℕ, suc, ◌/◌, ◌<◌}
use native.Mathlib.Nat.{mul-one}
use native.Mathlib.Omega.{arith}
use Rattle.alf_spec.specs.declared.Ctb.{Ctb}
use Rattle.alf_spec.specs.Input.{Layout}
use Rattle.alf_spec.specs.Geometry.{Side, before, after, same_side, next, gap, has_next, Axis, ctb_size, plane_of, ctb_rows}
use Rattle.alf_spec.specs.Boundary.{slice_disables, column_disabled, row_disabled, corner_disabled}
use Rattle.alf_spec.specs.Isolation.{open_step, column_step, row_step, diagonal_step, isolated}
use Rattle.alf_spec.proofs.Tests.{and_no}
use Rattle.alf_spec.proofs.Accepted.{AcceptedLayout}
use Rattle.alf_spec.proofs.Axes.{Regular, regular_columns, regular_rows}
use Rattle.alf_spec.proofs.IsolatedRegions.UncutStretches.{Uncut, CarriedAlong, walk}
use Rattle.alf_spec.proofs.IsolatedRegions.Steps.{open_step_lem, next-ctb}
use Rattle.alf_spec.proofs.IsolatedRegions.StepsStayInside.{LumaInside, column_stays, row_stays, diagonal_stays}
use Rattle.alf_spec.proofs.IsolatedRegions.ReadPaths.{Over, ReadPath, here, over}

-- a step within a stretch is open, there and back
inner : (a : Axis) (disabled disabled' : Side → Bool) (b : ℕ) → suc b < a.size → ¬ Memᴰ (suc b) a.virtual_boundaries
    → b / a.ctb ≡ suc b / a.ctb → (open_step a disabled after b ≡ true) × (open_step a disabled' before (suc b) ≡ true)
inner a disabled disabled' b hi free q = (
  open_step_lem a disabled after b (omega arith) hi free (λ ne. absurd (ne q)),
  open_step_lem a disabled' before (suc b) (omega arith) hi free (λ ne. absurd (ne (sym q))),
)

-- the CTB of a luma sample
abbrev ctb_holding : Layout → ℕ → ℕ → Ctb
ctb_holding l x y = record { column = x / ctb_size l.picture; row = y / ctb_size l.picture }

module _ (l : Layout) (column_ratio row_ratio line x y : ℕ) where
  -- steps in terms of that CTB, for the axes of a plane of any ratio
  column_step_lem : (d : Side) → open_step (plane_of l column_ratio row_ratio line).columns (column_disabled l (ctb_holding l x y)) d x ≡ true
      → column_step l x y d ≡ true
  unfolding column_step open_step plane_of
  column_step_lem d q = rw (mul-one x, mul-one y) q

  row_step_lem : (e : Side) → open_step (plane_of l column_ratio row_ratio line).rows (row_disabled l (ctb_holding l x y)) e y ≡ true
      → row_step l x y e ≡ true
  unfolding row_step open_step plane_of
  row_step_lem e q = rw (mul-one x, mul-one y) q

-- ---- corners

not_corner : (d e : Side) (s : Bool) → (d ≡ e → s ≡ false) → not (same_side d e && s) ≡ true
not_corner before before s f = simp (f refl)
not_corner before after s f = refl
not_corner after before s f = refl
not_corner after after s f = simp (f refl)

diagonal_step_lem : (l : Layout) (d e : Side) (m n : ℕ) → column_step l m n d ≡ true → row_step l m n e ≡ true
    → (d ≡ e → slice_disables l (ctb_holding l m n) (ctb_holding l (next d m) (next e n)) ≡ false) → diagonal_step l m n d e ≡ true
unfolding diagonal_step plane_of
diagonal_step_lem l d e m n q q' f = simp (q, q', mul-one m, mul-one n, mul-one (next d m), mul-one (next e n), not_corner d e _ f)

module _ (l : Layout) (ok : AcceptedLayout l) (column_ratio row_ratio line : ℕ) where
  abbrev columns : Axis
  columns = (plane_of l column_ratio row_ratio line).columns

  abbrev rows : Axis
  rows = (plane_of l column_ratio row_ratio line).rows

  ok_x : Regular columns
  ok_x = regular_columns l ok column_ratio row_ratio line

  ok_y : Regular rows
  ok_y = regular_rows l ok column_ratio row_ratio line

  -- a diagonal step over both sides of a CTB leads to the CTB that the corner flag speaks of
  corner_open : (d e : Side) (m n : ℕ) → d ≡ e
      → 0 < gap d m → gap d m < columns.size → m / columns.ctb ≢ next d m / columns.ctb
      → 0 < gap e n → gap e n < rows.size → n / rows.ctb ≢ next e n / rows.ctb
      → corner_disabled l (ctb_holding l m n) d ≡ false → slice_disables l (ctb_holding l m n) (ctb_holding l (next d m) (next e n)) ≡ false
  unfolding corner_disabled plane_of
  corner_open d e m n q lo hi ne lo' hi' ne' f =
      let x = next-ctb columns ok_x d m lo hi ne in
      let y = next-ctb rows ok_y e n lo' hi' ne' in
      let h : has_next (ctb_rows l) d (n / rows.ctb) ≡ true = rw q y.1 in
      rw (x.0, y.0, ← q) (and_no _ _ (and_no _ _ f x.1) h)

  module _ (region : List ℕ) (iso : isolated l region ≡ true) where
    carried_x : (y : ℕ) → CarriedAlong columns (λ x. LumaInside l region x y)
    unfolding CarriedAlong
    carried_x y b hi free q =
        let o = inner columns (column_disabled l (ctb_holding l b y)) (column_disabled l (ctb_holding l (suc b) y)) b hi free q in (
          λ r. column_stays l region iso b y r after (column_step_lem l column_ratio row_ratio line b y after o.0),
          λ r. column_stays l region iso (suc b) y r before (column_step_lem l column_ratio row_ratio line (suc b) y before o.1),
        )

    carried_y : (x : ℕ) → CarriedAlong rows (λ y. LumaInside l region x y)
    unfolding CarriedAlong
    carried_y x b hi free q =
        let o = inner rows (row_disabled l (ctb_holding l x b)) (row_disabled l (ctb_holding l x (suc b))) b hi free q in (
          λ r. row_stays l region iso x b r after (row_step_lem l column_ratio row_ratio line x b after o.0),
          λ r. row_stays l region iso x (suc b) r before (row_step_lem l column_ratio row_ratio line x (suc b) before o.1),
        )

    walk_x : {x u y : ℕ} → Uncut columns x u → LumaInside l region x y → LumaInside l region u y
    walk_x {x} {u} {y} = walk columns ok_x (λ x. LumaInside l region x y) (carried_x y)

    walk_y : {x y v : ℕ} → Uncut rows y v → LumaInside l region x y → LumaInside l region x v
    walk_y {x} {y} {v} = walk rows ok_y (λ y. LumaInside l region x y) (carried_y x)

    module _ (d e : Side) (x y u v : ℕ) (r : LumaInside l region x y) where
      -- what is said of the CTB holds at each of its samples
      carry : {m n : ℕ} → Uncut columns x m → Uncut rows y n → (F : Ctb → Type 0) → F (ctb_holding l x y) → F (ctb_holding l m n)
      unfolding plane_of
      carry c k F = subst₂ (λ (i j : ℕ). F (record { column = i; row = j })) c.ctb k.ctb

      -- a step over the CTB's side that is open at one of its samples is open at each
      step_x : {m n : ℕ} → Over columns (column_disabled l (ctb_holding l x y)) d x u m → Uncut columns x m → Uncut rows y n
          → column_step l m n d ≡ true
      step_x {m} {n} o c k = column_step_lem l column_ratio row_ratio line m n d
          (carry c k (λ ctb. open_step columns (column_disabled l ctb) d m ≡ true) o.step)

      step_y : {m n : ℕ} → Over rows (row_disabled l (ctb_holding l x y)) e y v n → Uncut columns x m → Uncut rows y n → row_step l m n e ≡ true
      step_y {m} {n} w c k = row_step_lem l column_ratio row_ratio line m n e
          (carry c k (λ ctb. open_step rows (row_disabled l ctb) e n ≡ true) w.step)

      -- the one claim about two axes: first along stretches, then over a side or a corner, if any, then along stretches again
      pub arrive : ReadPath columns (column_disabled l (ctb_holding l x y)) d x u → ReadPath rows (row_disabled l (ctb_holding l x y)) e y v
          → (x / columns.ctb ≢ u / columns.ctb → y / rows.ctb ≢ v / rows.ctb → d ≡ e → corner_disabled l (ctb_holding l x y) d ≡ false)
          → LumaInside l region u v
      arrive (here c) (here k) f = walk_y k (walk_x c r)
      arrive (over m o) (here k) f =
          walk_x o.outer (column_stays l region iso m v (walk_y k (walk_x o.inner r)) d (step_x o o.inner k))
      arrive (here c) (over n w) f = walk_y w.outer (row_stays l region iso u n (walk_y w.inner (walk_x c r)) e (step_y w c w.inner))
      arrive (over m o) (over n w) f =
          walk_y w.outer (walk_x o.outer (diagonal_stays l region iso m n (walk_y w.inner (walk_x o.inner r)) d e
          (diagonal_step_lem l d e m n (step_x o o.inner w.inner) (step_y w o.inner w.inner) (λ q. corner_open d e m n q
          o.low o.high (λ s. o.other (o.inner.ctb ∙ s ∙ o.outer.ctb))
          w.low w.high (λ s. w.other (w.inner.ctb ∙ s ∙ w.outer.ctb))
          (carry o.inner w.inner (λ ctb. corner_disabled l ctb d ≡ false) (f o.other w.other q))))))
