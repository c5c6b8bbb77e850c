-- What the tables say of a CTB's filter, under the one name of the filters. Assumes nothing.
use mathlib.Core.Path.{◌≡◌, sym, subst}
use mathlib.Core.List.{List}
use Prim.Native.Nat.{ℕ, ◌+◌, ◌≤◌, ◌<◌}
use native.Mathlib.Omega.{arith}
use lib.IntN.{ℤ, pos}
use lib.ListN.{length, get_or}
use Rattle.alf_spec.specs.declared.Ctb.{Ctb}
use Rattle.alf_spec.specs.Input.{Input}
use Rattle.alf_lists.specs.Regions.{between}
use Rattle.alf_lists.specs.Filled.{Filled}
use Rattle.alf_params.specs.declared.filters.ApsRun.{ApsRun}
use Rattle.alf_params.specs.Tables.{ctb_number, CtbTables, FixedTables, TablesGiven}
use Rattle.alf_params.specs.Numbers.{FromAps, luma_run, chroma_run, cross_run, fixed_number}
use Rattle.alf_params.proofs.LoadedFilters.{chroma-coefficients, chroma-clips, chroma_filter, cross_coefficients, cross_filter}
use Rattle.alf_params.proofs.LoadedFilters.{aps_numbers, aps_filters, fixed-numbers, fixed-filters}
use Rattle.alf_spec.specs.declared.Filter.{Filter}
use Rattle.alf_spec.specs.declared.Filter.TheVariants.{Luma, Chroma, CrossComponent}
use Rattle.alf_ctb.specs.Filters.{OwnFilter}
use Rattle.alf_ctb.specs.FilterWork.{Numbers}
use Rattle.alf_ctb.specs.Tables.{ComponentOf, FixedGiven, FixedSame, Switched}

-- the numbers that stand in a list are those of the CTB's filter
module _ (f : Filter) (filters : List ℤ) (depth : ℕ) (fixed_filters : List ℤ) (fixed_map slice_map slice_params : List ℕ) (bank : List ℤ)
    (ctb_params : List ℕ) (k : ℕ) where
  abbrev Loaded : Filter → Type 0
  Loaded f = Numbers f filters × ((i : Input) (c : Ctb) → TablesGiven i c slice_map slice_params bank ctb_params k
      → FixedSame f i depth fixed_filters fixed_map → OwnFilter f i c filters)

  module _ (T : CtbTables slice_map slice_params bank ctb_params k) {old : List ℤ} (room : length old ≡ 600) where
    -- from a fixed set
    pub fixed_loaded : {set : ℕ} → f ≡ Luma → FixedGiven f depth fixed_filters fixed_map → set ≡ ctb_number ctb_params k 3 → set < 16
        → Filled (pos 0) old (between 0 600) (fixed_number depth set fixed_filters fixed_map) filters → Loaded f
    fixed_loaded e F v early P =
        let own : FixedTables depth fixed_filters fixed_map = rw e at F in
        subst Loaded (sym e) (fixed-numbers T room own v early P, fixed-filters T room own v early P)

    -- from one of the slice's APSs
    module _ {run : ApsRun} (P : FromAps slice_map slice_params bank k run old filters) where
      pub luma_loaded : {set : ℕ} → f ≡ Luma → run ≡ luma_run set → set ≡ ctb_number ctb_params k 3 → 16 ≤ set → Loaded f
      luma_loaded e r v late =
          let own = rw r at P in
          subst Loaded (sym e) (aps_numbers T room v late own, λ i c t same. aps_filters T room v late own i c t)

      pub chroma_loaded : {component : ℕ} → ComponentOf f → f ≡ Chroma component
          → run ≡ chroma_run (ctb_number ctb_params k (4 + component)) → Loaded f
      chroma_loaded is e r =
          let own = rw r at P in
          let component = rw e at is in
          subst Loaded (sym e) (
            record {
              count = omega (arith, own.filled.len);
              coefficients = chroma-coefficients T room component own;
              clips = chroma-clips T room component own;
            },
            λ i c t same. chroma_filter T room component own i c t,
          )

      pub cross_loaded : {component : ℕ} → ComponentOf f → f ≡ CrossComponent component
          → run ≡ cross_run component (ctb_number ctb_params k (6 + component))
          → Switched f ctb_params k → ((j : ℕ) → get_or old j (pos 0) ≡ pos 0) → Loaded f
      cross_loaded is e r on empty =
          let own = rw r at P in
          let component = rw e at is in
          subst Loaded (sym e) (
            record { count = omega (arith, own.filled.len); coefficients = cross_coefficients T room component (rw e at on) empty own },
            λ i c t same. record { coefficients = cross_filter T room component (rw e at on) empty own i c t },
          )
