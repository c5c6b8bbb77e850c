-- A CTB that is filtered: its rectangle of the filter's plane is the CTB. Assumes nothing.
use mathlib.Core.Path.{◌≡◌, sym, subst}
use mathlib.Core.Bool.{Bool}
use mathlib.Core.List.{List}
use Prim.Native.Nat.{ℕ, ◌+◌, ◌*◌, ◌/◌, ◌%◌, min}
use native.Mathlib.Omega.{arith}
use lib.ListN.{length}
use Rattle.alf_spec.specs.declared.Grid.{Grid}
use Rattle.alf_spec.specs.declared.Picture.{Picture}
use Rattle.alf_spec.specs.Lists.{painted}
use Rattle.alf_spec.specs.Input.{Layout}
use Rattle.alf_spec.specs.Geometry.{Plane, plane_of}
use Rattle.alf_spec.specs.Process.{output_plane}
use Rattle.alf_spec.proofs.Accepted.{AcceptedLayout}
use Rattle.alf_spec.proofs.Ratios.{Ratio, whole, half}
use Rattle.alf_math.specs.Grids.{GridOf}
use Rattle.alf_lists.specs.Regions.{in_rect}
use Rattle.alf_pieces.specs.CtbRegions.{of_ctb}
use Rattle.alf_pieces.proofs.CtbRegions.{ctb-painted}
use Rattle.alf_spec.specs.declared.Filter.{Filter}
use Rattle.alf_spec.specs.Filters.{operation_of}
use Rattle.alf_ctb.specs.Filters.{column_ratio, row_ratio}
use Rattle.alf_ctb.proofs.Ratios.{filter_ratios}
use Rattle.alf_filter.proofs.AcceptedFilters.{output_line, output_plane_lem}

-- a multiple of 8 is a whole number of the plane's own samples
pub whole-samples : {r : ℕ} → Ratio r → (b : ℕ) → b % 8 ≡ 0 → b / r * r ≡ b
whole-samples whole b h = omega arith
whole-samples half b h = omega arith

-- the rectangle of the CTB at address k, and the plane's size, by the numbers that code has
abbrev rectangle : Filter → Picture → Grid → ℕ → ℕ → Bool
rectangle f p g k =
    in_rect (p.width / column_ratio f p) (k % g.columns * g.ctb / column_ratio f p)
    (min (k % g.columns * g.ctb + g.ctb) p.width / column_ratio f p) (k / g.columns * g.ctb / row_ratio f p)
    (min (k / g.columns * g.ctb + g.ctb) p.height / row_ratio f p)

abbrev size : Filter → Picture → ℕ
size f p = (p.width / column_ratio f p) * (p.height / row_ratio f p)

-- a layout whose picture is p
module _ (f : Filter) (l : Layout) (ok : AcceptedLayout l) (g : Grid) (old new : List ℕ) (v : ℕ → ℕ) (k : ℕ) where
  abbrev Done : Picture → Type 0
  Done p = GridOf p g → length old ≡ size f p → new ≡ painted old (rectangle f p g k) v
      → new ≡ painted old (of_ctb l (output_plane (operation_of f) l) k) v

  own_done : Done l.picture
  unfolding plane_of
  own_done grid e h =
      let ratios = filter_ratios f l.picture in
      subst (λ (g : Plane). new ≡ painted old (of_ctb l g k) v) (sym (output_plane_lem f l))
      (ctb-painted l ok (column_ratio f l.picture) (row_ratio f l.picture) (output_line f l.picture) (whole-samples ratios.0)
      (whole-samples ratios.1) old e grid v k h)

  pub ctb-done : {p : Picture} → l.picture ≡ p → GridOf p g
      → length old ≡ (p.width / column_ratio f p) * (p.height / row_ratio f p) → new ≡ painted old (in_rect (p.width / column_ratio f p)
      (k % g.columns * g.ctb / column_ratio f p) (min (k % g.columns * g.ctb + g.ctb) p.width / column_ratio f p)
      (k / g.columns * g.ctb / row_ratio f p) (min (k / g.columns * g.ctb + g.ctb) p.height / row_ratio f p)) v
      → new ≡ painted old (of_ctb l (output_plane (operation_of f) l) k) v
  ctb-done e = subst Done e own_done
