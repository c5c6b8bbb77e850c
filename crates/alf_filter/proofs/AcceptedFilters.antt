-- What acceptance says of a filter's input: its plane, its tables and its list. Assumes nothing.
use mathlib.Core.Path.{◌≡◌, refl, sym, ap, ◌∙◌}
use mathlib.Core.Bool.{true, ◌&&◌}
use mathlib.Core.List.{List}
use Prim.Native.Nat.{ℕ, ◌*◌, ◌/◌, ◌<◌}
use native.Mathlib.Nat.{div-one}
use lib.Dec.{ltb}
use lib.IntN.{ℤ}
use lib.ListN.{length, get_or}
use borrow.Author.Tests.{ltb-true}
use Rattle.alf_spec.specs.declared.Ctb.{Ctb}
use Rattle.alf_spec.specs.declared.Grid.{Grid}
use Rattle.alf_spec.specs.declared.Picture.{Picture}
use Rattle.alf_spec.specs.Lists.{implies, painted}
use Rattle.alf_spec.specs.Input.{Layout, given, Input, with_output}
use Rattle.alf_spec.specs.Geometry.{sub_height, line_rows, plane_of, plane_length, total_ctbs, address}
use Rattle.alf_spec.specs.Process.{is_filtered, at_index, filtered_plane, result_of, output_plane}
use Rattle.alf_spec.specs.Faults.{component_valid, parameters_valid, bank_valid, fixed_valid, samples_valid, addresses_valid, tables_fault, fault}
use Rattle.alf_spec.proofs.Tests.{implied, every-at}
use Rattle.alf_spec.proofs.Accepted.{AcceptedLayout, accepted, passed, lists_valid, component_of, luma-length, chroma-length, luma-samples}
use Rattle.alf_spec.proofs.Accepted.{chroma-samples, output_length_lem}
use Rattle.alf_math.specs.Grids.{GridOf}
use Rattle.alf_math.proofs.Grids.{sample_bound, grid_total}
use Rattle.alf_luma.specs.SpreadFilters.{TapOrders}
use Rattle.alf_params.specs.Tables.{TablesGiven}
use Rattle.alf_params.proofs.AcceptedTables.{accepted_tables, accepted-fixed}
use Rattle.alf_params.proofs.TableNumbers.{own_tables, index_on}
use Rattle.alf_spec.specs.declared.Filter.{Filter}
use Rattle.alf_spec.specs.declared.Filter.TheVariants.{Luma, Chroma, CrossComponent}
use Rattle.alf_spec.specs.Filters.{operation_of}
use Rattle.alf_ctb.specs.Filters.{column_ratio, row_ratio, plane_filtered, is_on, sample_of}
use Rattle.alf_ctb.specs.Tables.{ComponentOf, FixedGiven, FixedSame, Switched}
use Rattle.alf_filter.specs.FilterTables.{TablesAccepted, TablesIn}

-- ---- the plane that a filter writes

-- the line of that plane
abbrev pub output_line : Filter → Picture → ℕ
output_line Luma p = line_rows 2
output_line (Chroma component) p = line_rows (sub_height p)
output_line (CrossComponent component) p = line_rows (sub_height p)

pub output_plane_lem : (f : Filter) (l : Layout)
    → output_plane (operation_of f) l ≡ plane_of l (column_ratio f l.picture) (row_ratio f l.picture) (output_line f l.picture)
output_plane_lem Luma l = refl
output_plane_lem (Chroma component) l = refl
output_plane_lem (CrossComponent component) l = refl

-- a length that is its size, by the picture that code has
pub plane_size : (f : Filter) (l : Layout) {p : Picture} → l.picture ≡ p → {n : ℕ}
    → n ≡ (p.width / column_ratio f p) * (p.height / row_ratio f p) → n ≡ plane_length (output_plane (operation_of f) l)
unfolding plane_of
plane_size f l e h =
    h ∙ ap (λ (p : Picture). (p.width / column_ratio f p) * (p.height / row_ratio f p)) (sym e) ∙ sym (ap plane_length (output_plane_lem f l))

-- every filter is given the tables
pub filters-given : (f : Filter) → (given (operation_of f)).filters ≡ true
filters-given Luma = refl
filters-given (Chroma component) = refl
filters-given (CrossComponent component) = refl

-- ---- an accepted input

module _ (f : Filter) (i : Input) (ok : fault (operation_of f) i ≡ 0) where
  pub layout-accepted : AcceptedLayout i.layout
  layout-accepted = (accepted (operation_of f) i ok).0

  pub output_size : i.output_length ≡ (i.layout.picture.width / column_ratio f
      i.layout.picture) * (i.layout.picture.height / row_ratio f i.layout.picture)
  unfolding plane_of
  output_size = output_length_lem (operation_of f) i ok ∙ ap plane_length (output_plane_lem f i.layout)

component_valid_lem : (f : Filter) (p : Picture) → component_valid (operation_of f) p ≡ true → ComponentOf f
unfolding component_valid
component_valid_lem Luma p e = tt
component_valid_lem (Chroma component) p e = component_of p component e
component_valid_lem (CrossComponent component) p e = component_of p component e

pub component-accepted : (f : Filter) (i : Input) → fault (operation_of f) i ≡ 0 → ComponentOf f
component-accepted f i ok = component_valid_lem f i.layout.picture (accepted (operation_of f) i ok).1

pub fixed-accepted : (f : Filter) (i : Input) → fault (operation_of f) i ≡ 0
    → FixedGiven f i.layout.picture.bit_depth i.fixed_filters i.fixed_map
fixed-accepted Luma i ok = accepted-fixed _ i ok refl
fixed-accepted (Chroma component) i ok = tt
fixed-accepted (CrossComponent component) i ok = tt

-- an index that is on is not 0
pub switched : (f : Filter) (i : Input) (c : Ctb) {k : ℕ} → address i.layout c ≡ k → is_on f i c ≡ true → Switched f i.ctb_params k
switched Luma i c at e = tt
switched (Chroma component) i c at e = tt
switched (CrossComponent component) i c at e = index_on (own_tables i c at) component e

-- ---- its tables

-- those of an accepted input have what a filter needs; how long its output is plays no part there
pub tables_accepted : (f : Filter) (own : Input) (n : ℕ) → fault (operation_of f) (with_output n own) ≡ 0 → {g : Grid} {orders : List ℕ}
    → GridOf own.layout.picture g → TapOrders orders → TablesAccepted f own g orders
unfolding plane_of
tables_accepted f own n ok grid order =
    let i = with_output n own in
    let op = operation_of f in
    let layout = layout-accepted f i ok in
    let lists = lists_valid i.layout layout.virtual_boundaries in
    record {
      planes = record {
        picture = record { grid = grid; sizes = layout.sizes; ctb_size = layout.ctb_size; depth = layout.bit_depth };
        luma_length = λ e. simp div-one at (luma-length op i ok e);
        chroma_length = chroma-length op i ok;
        luma = λ e k. sample_bound i.layout.picture layout.bit_depth (luma-samples op i ok e k);
        chroma = λ e k. sample_bound i.layout.picture layout.bit_depth (chroma-samples op i ok e k);
        order = order;
      };
      virtual_columns = lists.0;
      virtual_rows = lists.1;
      component = component-accepted f i ok;
      ctbs = λ k below. accepted_tables op i ok (filters-given f) k (rw (grid_total i.layout _ grid) at below);
      fixed = fixed-accepted f i ok;
    }

-- what two inputs share that differ in their outputs' lengths alone, part by part
module _ {f : Filter} {i own : Input} (given : TablesIn f i own) where
  pub same-picture : i.layout.picture ≡ own.layout.picture
  same-picture = ap (λ (t : Input). t.layout.picture) given.same

  pub same_virtual_columns : i.layout.virtual_columns ≡ own.layout.virtual_columns
  same_virtual_columns = ap (λ (t : Input). t.layout.virtual_columns) given.same

  pub same_virtual_rows : i.layout.virtual_rows ≡ own.layout.virtual_rows
  same_virtual_rows = ap (λ (t : Input). t.layout.virtual_rows) given.same

  pub same-luma : i.luma ≡ own.luma
  same-luma = ap (λ (t : Input). t.luma) given.same

  pub same-chroma : i.chroma ≡ own.chroma
  same-chroma = ap (λ (t : Input). t.chroma) given.same

  -- the tables of a CTB's filter
  pub same_tables : {c : Ctb} {k : ℕ} → address i.layout c ≡ k
      → TablesGiven i c own.layout.slice_map own.slice_params own.bank own.ctb_params k
  same_tables at = record {
    same_slice_map = ap (λ (t : Input). t.layout.slice_map) given.same;
    same_slice_params = ap (λ (t : Input). t.slice_params) given.same;
    same_bank = ap (λ (t : Input). t.bank) given.same;
    same_ctb_params = ap (λ (t : Input). t.ctb_params) given.same;
    at_address = at;
  }

fixed_same : (f : Filter) (i : Input) {depth : ℕ} {fixed_filters : List ℤ} {fixed_map : List ℕ} → i.layout.picture.bit_depth ≡ depth
    → i.fixed_filters ≡ fixed_filters → i.fixed_map ≡ fixed_map → FixedSame f i depth fixed_filters fixed_map
fixed_same Luma i d e m = record { same_depth = d; same_filters = e; same_map = m }
fixed_same (Chroma component) i d e m = tt
fixed_same (CrossComponent component) i d e m = tt

pub same-fixed : {f : Filter} {i own : Input} → TablesIn f i own
    → FixedSame f i own.layout.picture.bit_depth own.fixed_filters own.fixed_map
same-fixed {f} {i} given =
    fixed_same f i (ap (λ (t : Input). t.layout.picture.bit_depth) given.same)
    (ap (λ (t : Input). t.fixed_filters) given.same) (ap (λ (t : Input). t.fixed_map) given.same)

-- ---- what a filter leaves

pub result-is : (f : Filter) (i : Input) → result_of (operation_of f) i
    ≡ painted (plane_filtered f i.luma i.chroma) (is_filtered i (output_plane (operation_of f) i.layout) (is_on f i))
    (at_index (output_plane (operation_of f) i.layout) (sample_of f i))
unfolding result_of filtered_plane
result-is Luma i = refl
result-is (Chroma component) i = refl
result-is (CrossComponent component) i = refl

-- its input has the output's length
pub plane_length_lem : (f : Filter) (i : Input) → fault (operation_of f) i ≡ 0 → length (plane_filtered f i.luma i.chroma) ≡ i.output_length
plane_length_lem Luma i ok = luma-length _ i ok refl ∙ sym (output_length_lem _ i ok)
plane_length_lem (Chroma component) i ok = chroma-length _ i ok refl ∙ sym (output_length_lem _ i ok)
plane_length_lem (CrossComponent component) i ok = chroma-length _ i ok refl ∙ sym (output_length_lem _ i ok)

-- ---- the list

addresses_valid_lem : (f : Filter) (i : Input) → fault (operation_of f) i ≡ 0 → addresses_valid i ≡ true
unfolding tables_fault
addresses_valid_lem f i ok =
    let op = operation_of f in
    let after_parameters = (passed (implies (given op).filters (parameters_valid i)) 9 _ (accepted op i ok).3).1 in
    let after_bank = (passed (implies (given op).filters (bank_valid i) && implies (given op).fixed (fixed_valid i)) 10 _ after_parameters).1
    in
    let after_samples = (passed (implies (given op).luma (samples_valid i.layout.picture i.luma)
    && implies (given op).chroma (samples_valid i.layout.picture i.chroma)) 11 _ after_bank).1 in
    implied (given op).filters (addresses_valid i) (passed (implies (given op).filters (addresses_valid i)) 12 _ after_samples).0
    (filters-given f)

-- each entry is a CTB's address
pub listed_below : (f : Filter) (i : Input) → fault (operation_of f) i ≡ 0 → (j : ℕ) → j < length i.ctb_list
    → get_or i.ctb_list j 0 < total_ctbs i.layout
unfolding addresses_valid
listed_below f i ok j h = ltb-true _ _ (every-at 0 0 (λ _ n. ltb n (total_ctbs i.layout)) i.ctb_list (addresses_valid_lem f i ok) j h)
