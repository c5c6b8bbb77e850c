-- The samples that are filtered are those of the marked CTBs. Assumes nothing.
use mathlib.Core.Path.{◌≡◌, refl, sym, ap, subst, ◌∙◌}
use mathlib.Core.Bool.{Bool, true, false, ◌&&◌, cond}
use mathlib.Core.List.{List}
use Prim.Native.Nat.{ℕ, zero, ◌*◌, ◌/◌, ◌%◌, ◌<◌}
use native.Mathlib.Nat.{div-add-mod'}
use native.Mathlib.Omega.{arith}
use lib.Dec.{eqb}
use lib.ListN.{length, replicate, get_or-replicate, length-replicate}
use Rattle.alf_spec.specs.declared.Ctb.{Ctb}
use Rattle.alf_spec.specs.Lists.{elem, painted}
use Rattle.alf_spec.specs.Input.{Layout, Input}
use Rattle.alf_spec.specs.Geometry.{Plane, plane_of, plane_length, column_of, row_of, ctb_at, total_ctbs, ctb_columns, ctb_of}
use Rattle.alf_spec.specs.Process.{is_filtered, at_index, output_plane, result_of}
use Rattle.alf_spec.specs.Faults.{fault}
use Rattle.alf_spec.proofs.Tests.{both}
use Rattle.alf_spec.proofs.Planes.{address_below, address-ctb}
use Rattle.alf_spec.proofs.Accepted.{AcceptedLayout, output_length_lem}
use Rattle.alf_spec.proofs.Ratios.{Ratio}
use Rattle.alf_math.proofs.Grids.{few_in_layout}
use Rattle.alf_pieces.specs.CtbRegions.{address_at, in_ctb_if, before_ctb_if}
use Rattle.alf_pieces.proofs.CtbRegions.{column_in, row_in, every-ctb_if}
use Rattle.alf_lists.proofs.Painted.{Paint, paint_is, paint_of, paint_same}
use Rattle.alf_spec.specs.declared.Filter.{Filter}
use Rattle.alf_spec.specs.Filters.{operation_of}
use Rattle.alf_ctb.specs.Filters.{column_ratio, row_ratio, plane_filtered, is_on, sample_of}
use Rattle.alf_ctb.proofs.Ratios.{filter_ratios}
use Rattle.alf_filter.specs.FilteredCtbs.{is_listed, mark_of, on_mark, is_marked, MarksOn, MarkedFiltered}
use Rattle.alf_filter.proofs.AcceptedFilters.{output_plane_lem, layout-accepted, switched, result-is, plane_length_lem}
use Rattle.alf_filter.proofs.CtbFilters.{whole-samples}

-- ---- the marks

by_mark : (listed on : Bool) → eqb (cond listed (mark_of on) 0) 1 ≡ (listed && on)
by_mark true true = refl
by_mark true false = refl
by_mark false true = refl
by_mark false false = refl

-- the marks of an input's listed CTBs, over zeros
module _ (f : Filter) (i : Input) {marks : List ℕ} (e : marks ≡ painted (replicate 16384 0) (is_listed i.ctb_list) (on_mark f i)) where
  -- the CTB at address k is marked where it is listed and on
  marked_on : (k : ℕ) → k < 16384 → is_marked marks k ≡ (elem k i.ctb_list && is_on f i (ctb_of i.layout k))
  unfolding is_listed
  marked_on k h =
      ap (λ (n : ℕ). eqb n 1) ((paint_of {xs = replicate 16384 0} e).at k (rw (length-replicate 16384 zero) h)
      ∙ ap (λ (n : ℕ). cond (elem k i.ctb_list) (on_mark f i k) n) (get_or-replicate 16384 k zero zero h))
      ∙ by_mark (elem k i.ctb_list) (is_on f i (ctb_of i.layout k))

  pub marks_on : MarksOn f i.ctb_params marks
  marks_on k h t =
      let below : k < 16384 = omega (arith, (paint_of {xs = replicate 16384 0} e).len, length-replicate 16384 zero) in
      switched f i (ctb_of i.layout k) (div-add-mod' k (ctb_columns i.layout))
      (both (elem k i.ctb_list) _ (sym (marked_on k below) ∙ t)).1

-- ---- the samples

-- a plane with these ratios to luma, of an accepted layout: the sample at index n
module _ (i : Input) (ok : AcceptedLayout i.layout) (column_ratio row_ratio line : ℕ) (whole_columns : (b : ℕ) → b % 8 ≡ 0
    → b / column_ratio * column_ratio ≡ b) (whole_rows : (b : ℕ) → b % 8 ≡ 0 → b / row_ratio * row_ratio ≡ b) (on : Ctb → Bool)
    (n : ℕ) (h : n < plane_length (plane_of i.layout column_ratio row_ratio line)) where
  abbrev l : Layout
  l = i.layout

  abbrev g : Plane
  g = plane_of l column_ratio row_ratio line

  abbrev own : Ctb
  own = ctb_at g (column_of g n) (row_of g n)

  -- its CTB's address is in the picture
  own_below : address_at l g n < total_ctbs l
  own_below = address_below l own (column_in l ok column_ratio row_ratio line whole_columns whole_rows n h)
      (row_in l ok column_ratio row_ratio line whole_columns whole_rows n h)

  -- it is filtered where its CTB is listed and on
  own_filtered : is_filtered i g on n ≡ (elem (address_at l g n) i.ctb_list && on (ctb_of l (address_at l g n)))
  unfolding is_filtered
  own_filtered = ap (λ (c : Ctb). elem (address_at l g n) i.ctb_list && on c) (sym (address-ctb l own
      (column_in l ok column_ratio row_ratio line whole_columns whole_rows n h)
      (row_in l ok column_ratio row_ratio line whole_columns whole_rows n h)))

-- ---- in the plane of a filter

module _ (f : Filter) (i : Input) (ok : fault (operation_of f) i ≡ 0) where
  abbrev accepted : AcceptedLayout i.layout
  accepted = layout-accepted f i ok

  abbrev ratios : Ratio (column_ratio f i.layout.picture) × Ratio (row_ratio f i.layout.picture)
  ratios = filter_ratios f i.layout.picture

  abbrev plane : Plane
  plane = output_plane (operation_of f) i.layout

  -- all CTBs are passed: what is written are the marked ones
  pub all_marked : (marks : List ℕ) (k : ℕ) → k ≡ total_ctbs i.layout → (old : List ℕ) {new : List ℕ}
      → length old ≡ plane_length (output_plane (operation_of f) i.layout)
      → Paint old (before_ctb_if i.layout (output_plane (operation_of f) i.layout) (is_marked marks) k)
      (at_index (output_plane (operation_of f) i.layout) (sample_of f i)) new → MarkedFiltered f i marks old new
  all_marked marks k all old size P = paint_is (paint_same (rw all at P) (λ n h. sym (every n (rw size at h))) (λ n h t. refl))
    where
      every : (n : ℕ) → n < plane_length plane
          → before_ctb_if i.layout plane (is_marked marks) (total_ctbs i.layout) n ≡ in_ctb_if i.layout plane (is_marked marks) n
      every n = subst (λ (g : Plane). n < plane_length g
          → before_ctb_if i.layout g (is_marked marks) (total_ctbs i.layout) n ≡ in_ctb_if i.layout g (is_marked marks) n)
          (sym (output_plane_lem f i.layout))
          (λ h. every-ctb_if i.layout accepted _ _ _ (whole-samples ratios.0) (whole-samples ratios.1) n h (is_marked marks))

  -- the marked samples are those that the filter's definition filters
  module _ {marks : List ℕ} (e : marks ≡ painted (replicate 16384 0) (is_listed i.ctb_list) (on_mark f i)) where
    abbrev Marked : ℕ → Plane → Type 0
    Marked n g = n < plane_length g → in_ctb_if i.layout g (is_marked marks) n ≡ is_filtered i g (is_on f i) n

    marked_filtered : (n : ℕ) → Marked n plane
    unfolding in_ctb_if
    marked_filtered n = subst (Marked n) (sym (output_plane_lem f i.layout)) (λ h.
        let below = own_below i accepted _ _ _ (whole-samples ratios.0) (whole-samples ratios.1) (is_on f i) n h in
        marked_on f i e _ (omega (arith, few_in_layout i.layout accepted.sizes accepted.ctb_size))
        ∙ sym (own_filtered i accepted _ _ _ (whole-samples ratios.0) (whole-samples ratios.1) (is_on f i) n h))

    -- so, over the filter's input, what is left is what the definition leaves
    pub marked_result : {old new : List ℕ} → old ≡ plane_filtered f i.luma i.chroma → MarkedFiltered f i marks old new
        → new ≡ result_of (operation_of f) i
    marked_result {old} {new} copied h =
        paint_is (paint_same (paint_of {xs = plane_filtered f i.luma i.chroma} (rw copied at h))
        (λ n below. sym (marked_filtered n (rw (plane_length_lem f i ok ∙ output_length_lem (operation_of f) i ok) at below))) (λ n below t. refl))
        ∙ sym (result-is f i)
