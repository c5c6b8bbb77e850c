-- Nothing outside an isolated region has an effect inside it: one claim about two whole runs of one operation. Assumes nothing.
use mathlib.Core.Path.{◌≡◌, refl, sym, ap, ◌∙◌, subst}
use mathlib.Core.Bool.{true, not}
use mathlib.Core.List.{List}
use Prim.Native.Nat.{ℕ, ◌+◌, ◌*◌, ◌<◌}
use native.Mathlib.Omega.{arith}
use lib.Dec.{eqb}
use lib.ListN.{length, get_or}
use Rattle.alf_spec.specs.Lists.{elem}
use Rattle.alf_spec.specs.Input.{Layout, Operation, classes, luma, chroma, cross_component, given, Input}
use Rattle.alf_spec.specs.Geometry.{sub_width, sub_height, plane_of, luma_plane, chroma_plane, class_plane, plane_length, column_of, row_of}
use Rattle.alf_spec.specs.Geometry.{ctb_at, address}
use Rattle.alf_spec.specs.Parameters.{ctb_param}
use Rattle.alf_spec.specs.Luma.{luma_sample}
use Rattle.alf_spec.specs.Chroma.{chroma_sample}
use Rattle.alf_spec.specs.CrossComponent.{cross_sample}
use Rattle.alf_spec.specs.Process.{class_number, class_at, class_map, luma_on, chroma_on, cross_on, filtered_plane, result_of, output_plane}
use Rattle.alf_spec.specs.Faults.{component_valid, fault}
use Rattle.alf_spec.specs.Isolation.{isolated, output_inside}
use Rattle.alf_spec.proofs.Lists.{tabulate-at, tabulate-length, painted-length}
use Rattle.alf_spec.proofs.Accepted.{accepted, component_of, luma-length, chroma-length}
use Rattle.alf_spec.proofs.IsolatedRegions.Inside.{Inside, SameInside, luma-ctb, luma-inside}
use Rattle.alf_spec.proofs.Ratios.{whole, chroma_ratios, luma-line, chroma-line}
use Rattle.alf_spec.proofs.IsolatedRegions.Reach.{SameReads}
use Rattle.alf_spec.proofs.IsolatedRegions.ReadsStayInside.{same_reads}
use Rattle.alf_spec.proofs.IsolatedRegions.Samples.{same_class, at_layout, SameFilters, same-luma, same-chroma, same_cross}
use Rattle.alf_spec.proofs.IsolatedRegions.Results.{index_inside, SameOutput, same_output}

-- Two runs of one operation, and a region: what the two are alike in. The scope paper (01) asks it only of what the operation is given: "Of
-- the things that demand 3 wants alike, only those count that the operation is lent, its input planes at the samples inside".
pub record TwoRuns (op : Operation) (region : List ℕ) (i j : Input) : Type 0 where
  -- both inputs are accepted; 01: "Accepted means that no numbered cause applies"
  pub first_accepted : fault op i ≡ 0
  pub second_accepted : fault op j ≡ 0
  -- the region is isolated in the boundary tables, which both have; 01: "no open step goes from a sample in it to one outside it"
  pub region_isolated : isolated i.layout region ≡ true
  -- sizes, CTB exponent, bit depth, chroma format and boundary tables; 01: "The boundary tables are virtual boundaries, tiles, slice map
  -- with N, subpictures, and the switches"
  pub layout : i.layout ≡ j.layout
  -- slice parameters, bank and fixed tables
  pub slice_params : (given op).filters ≡ true → i.slice_params ≡ j.slice_params
  pub bank : (given op).filters ≡ true → i.bank ≡ j.bank
  pub fixed_filters : (given op).fixed ≡ true → i.fixed_filters ≡ j.fixed_filters
  pub fixed_map : (given op).fixed ≡ true → i.fixed_map ≡ j.fixed_map
  -- the input samples inside; 01: "Inside are the samples that lie in a block whose area byte is 1"
  pub luma : (given op).luma ≡ true → SameInside i.layout region (luma_plane i.layout) i.luma j.luma
  pub chroma : (given op).chroma ≡ true → SameInside i.layout region (chroma_plane i.layout) i.chroma j.chroma
  -- the CTB parameters of each CTB with a sample inside
  pub ctb_params : (given op).filters ≡ true → (x y : ℕ) → Inside i.layout region (luma_plane i.layout) x y → (n : ℕ) → n < 8
      → ctb_param i (ctb_at (luma_plane i.layout) x y) n ≡ ctb_param j (ctb_at (luma_plane i.layout) x y) n
  -- each CTB with a sample inside is listed in both or in neither; 01: "A CTB is listed when its address stands in the list at least once"
  pub listed : (given op).filters ≡ true → (x y : ℕ) → Inside i.layout region (luma_plane i.layout) x y
      → elem (address i.layout (ctb_at (luma_plane i.layout) x y)) i.ctb_list
      ≡ elem (address i.layout (ctb_at (luma_plane i.layout) x y)) j.ctb_list

-- ---- runs at one layout

module _ (op : Operation) (region : List ℕ) (i j : Input) (runs : TwoRuns op region i (at_layout i.layout j)) where
  abbrev l : Layout
  l = i.layout

  abbrev other : Input
  other = at_layout l j

  -- the filters of a CTB with a sample of a plane inside
  same-filters : (given op).filters ≡ true → (column_ratio row_ratio line x y : ℕ) → Inside l region (plane_of l column_ratio row_ratio line) x y
      → SameFilters i other (ctb_at (plane_of l column_ratio row_ratio line) x y)
  same-filters e column_ratio row_ratio line x y s =
      let t = luma-inside l column_ratio row_ratio line region x y s in
      subst (SameFilters i other) (luma-ctb l column_ratio row_ratio line x y)
      (record {
        slice_params = runs.slice_params e;
        bank = runs.bank e;
        ctb_params = runs.ctb_params e _ _ t;
        listed =
            runs.listed e _ _ t;
      })

  luma_output : (given op).filters ≡ true → (given op).luma ≡ true → SameOutput l region (luma_plane l) i other (λ a. a.luma)
  luma_output e f =
      same_output l region (luma_plane l) i other (λ a. a.luma)
      (luma-length op i runs.first_accepted f) (luma-length op other runs.second_accepted f) (runs.luma f) (same-filters e 1 1 4)

  chroma_output : (given op).filters ≡ true → (given op).chroma ≡ true → SameOutput l region (chroma_plane l) i other (λ a. a.chroma)
  chroma_output e f =
      same_output l region (chroma_plane l) i other (λ a. a.chroma)
      (chroma-length op i runs.first_accepted f) (chroma-length op other runs.second_accepted f) (runs.chroma f)
      (same-filters e (sub_width l.picture) (sub_height l.picture) (2 * sub_height l.picture))

-- equal reads give equal results
from_reads : (op : Operation) (region : List ℕ) (i j : Input) → TwoRuns op region i (at_layout i.layout j)
    → ((given op).luma ≡ true → SameReads i.layout region (luma_plane i.layout) i.luma j.luma)
    → ((given op).chroma ≡ true → SameReads i.layout region (chroma_plane i.layout) i.chroma j.chroma)
    → (k : ℕ) → k < plane_length (output_plane op i.layout) → output_inside op i.layout region k ≡ true
    → get_or (result_of op i) k 0 ≡ get_or (result_of op (at_layout i.layout j)) k 0
unfolding result_of output_inside plane_of class_map class_at component_valid luma_on chroma_on cross_on
from_reads classes region i j runs luma_reads chroma_reads = λ k h q.
    let l = i.layout in
    let x = column_of (class_plane l) k in
    let y = row_of (class_plane l) k in
    let s = luma-inside l 4 4 4 region x y (index_inside l region (class_plane l) k h q) in
    tabulate-at _ (class_at l i.luma) k h
    ∙ ap class_number (same_class l region i.luma j.luma (luma_reads refl) (x * 4) (y * 4) (omega arith) (omega arith) s)
    ∙ sym (tabulate-at _ (class_at l j.luma) k h)
from_reads luma region i j runs luma_reads chroma_reads =
    luma_output luma region i j runs refl refl
    luma_on (λ c f. ap (λ n. eqb n 1) (f.ctb_params 0 (omega arith)))
    luma_sample (same-luma i.layout region i j (runs.fixed_filters refl) (runs.fixed_map refl) (luma_reads refl))
from_reads (chroma component) region i j runs luma_reads chroma_reads =
    let valid = component_of i.layout.picture component (accepted (chroma component) i runs.first_accepted).1 in
    chroma_output (chroma component) region i j runs refl refl
    (λ a. chroma_on a component) (λ c f. ap (λ n. eqb n 1) (f.ctb_params (1 + component) (omega arith)))
    (λ a. chroma_sample a component) (same-chroma i.layout region i j component valid (chroma_reads refl))
from_reads (cross_component component) region i j runs luma_reads chroma_reads =
    let valid = component_of i.layout.picture component (accepted (cross_component component) i runs.first_accepted).1 in
    chroma_output (cross_component component) region i j runs refl refl
    (λ a. cross_on a component) (λ c f. ap (λ n. not (eqb n 0)) (f.ctb_params (6 + component) (omega arith)))
    (λ a. cross_sample a component) (same_cross i.layout region i j component valid (luma_reads refl) (runs.chroma refl))

-- 01: "then the two class planes or output planes are equal at every place inside"
pub isolation : (op : Operation) (region : List ℕ) (i j : Input) → TwoRuns op region i j
    → (k : ℕ) → k < plane_length (output_plane op i.layout) → output_inside op i.layout region k ≡ true
    → get_or (result_of op i) k 0 ≡ get_or (result_of op j) k 0
isolation op region i j runs k h q =
    let reads = same_reads i.layout (accepted op i runs.first_accepted).0 region runs.region_isolated in
    let ratios = chroma_ratios i.layout.picture in
    subst (λ l. TwoRuns op region i (at_layout l j) → get_or (result_of op i) k 0 ≡ get_or (result_of op (at_layout l j)) k 0) runs.layout
    (λ r. from_reads op region i j r (λ e. reads 1 1 4 whole whole luma-line i.luma j.luma (runs.luma e))
    (λ e. reads _ _ _ ratios.0 ratios.1 (chroma-line ratios.1) i.chroma j.chroma (runs.chroma e)) k h q) runs

-- the result of an accepted input is as long as the plane that is the output
pub result-length : (op : Operation) (i : Input) → fault op i ≡ 0 → length (result_of op i) ≡ plane_length (output_plane op i.layout)
unfolding result_of class_map filtered_plane
result-length classes i q = tabulate-length _ _
result-length luma i q = painted-length i.luma _ _ ∙ luma-length luma i q refl
result-length (chroma component) i q = painted-length i.chroma _ _ ∙ chroma-length (chroma component) i q refl
result-length (cross_component component) i q = painted-length i.chroma _ _ ∙ chroma-length (cross_component component) i q refl
