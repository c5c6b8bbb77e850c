-- The tables of an input that a filter accepts are as the functions of this crate ask. Assumes nothing.
use mathlib.Core.Path.{◌≡◌, refl, sym}
use mathlib.Core.Bool.{true, false, ◌&&◌, true≢false}
use mathlib.Core.List.{List}
use mathlib.Core.Logic.{◌⊎◌, inl, inr, ⊎_elim}
use Prim.Native.Nat.{ℕ, zero, suc, ◌+◌, ◌*◌, ◌%◌, ◌^◌, ◌≤◌, ◌<◌}
use native.Mathlib.Nat.{zero-add, div-add-mod', le_trans}
use native.Mathlib.Omega.{arith}
use borrow.Author.Tests.{ltb-true, leb-true, eqb-true}
use lib.Dec.{eqb, leb, ltb}
use lib.IntN.{ℤ, pos, negsuc}
use lib.ListN.{length, get_or, get_or-eq_default}
use lib.Pow.{pow_mono}
use Rattle.alf_spec.specs.declared.Ctb.{Ctb}
use Rattle.alf_spec.specs.Lists.{implies, all_below, every_from}
use Rattle.alf_spec.specs.Input.{Operation, given, Input}
use Rattle.alf_spec.specs.Geometry.{ctb_columns, total_ctbs, ctb_of}
use Rattle.alf_spec.specs.Parameters.{luma_flag, chroma_flag, luma_set, chroma_alternative, cross_index, luma_aps_count}
use Rattle.alf_spec.specs.Faults.{bit_depth_valid, filter_lengths_valid, fixed_lengths_valid, lengths_valid, slices_valid, slice_params_valid}
use Rattle.alf_spec.specs.Faults.{ctb_ranges_valid, ctb_params_valid_at, parameters_valid, coeff_valid, clip_valid, is_clip, bank_number_valid}
use Rattle.alf_spec.specs.Faults.{bank_valid, fixed_valid, tables_fault, fault}
use Rattle.alf_spec.proofs.Tests.{both, implied, within_bounds, all_at, every-at, every_entry}
use Rattle.alf_spec.proofs.Accepted.{passed, accepted, table_lengths}
use Rattle.alf_math.specs.Integers.{CoeffRange, ClipRange}
use Rattle.alf_params.specs.Tables.{BankNumbers, CtbTables, FixedTables}
use Rattle.alf_lists.proofs.Regions.{order}
use Rattle.alf_params.proofs.TableNumbers.{own_number, slice-number, own_tables}

-- ---- numbers that pass the tests of 11

coefficient_range : (z : ℤ) → coeff_valid z ≡ true → CoeffRange z
unfolding coeff_valid
coefficient_range (pos n) e = omega (arith, leb-true n 127 e)
coefficient_range (negsuc n) e = omega (arith, leb-true n 127 (both (leb n 127) true e).0)

zero_valid : coeff_valid (pos 0) ≡ true
unfolding coeff_valid
zero_valid = refl

clip_range : (depth : ℕ) → depth ≤ 12 → (z : ℤ) → clip_valid depth z ≡ true → ClipRange z
unfolding clip_valid
clip_range depth h (pos n) e =
    record { level = refl; small = le_trans (leb-true n (2 ^ depth) (both (leb 0 n) (leb n (2 ^ depth)) e).1) (pow_mono h) }
clip_range depth h (negsuc n) e = absurd (true≢false (sym e))

module _ (bank : List ℤ) {depth : ℕ} (small : depth ≤ 12) (valid : every_from 0 (bank_number_valid depth) bank ≡ true) where
  -- past the end a read gives 0
  number_valid : (n : ℕ) → (bank_number_valid depth n (get_or bank n (pos 0)) ≡ true) ⊎ (get_or bank n (pos 0) ≡ pos 0)
  number_valid n =
      ⊎_elim (λ l. inl (rw zero-add at (every-at (pos 0) 0 (bank_number_valid depth) bank valid n l)))
      (λ l. inr (get_or-eq_default bank (pos 0) {n = n} l)) (order n (length bank))

  bank_coefficient : (n : ℕ) → is_clip (n % 752) ≡ false → CoeffRange (get_or bank n (pos 0))
  unfolding bank_number_valid
  bank_coefficient n q = ⊎_elim (λ e. coefficient_range _ (rw q at e)) (λ e. rw e (omega arith)) (number_valid n)

  bank-clip : (n : ℕ) → is_clip (n % 752) ≡ true → ClipRange (get_or bank n (pos 0))
  unfolding bank_number_valid
  bank-clip n q = ⊎_elim (λ e. clip_range depth small _ (rw q at e)) (λ e. rw e (record { level = refl; small = omega arith }))
      (number_valid n)

-- ---- the CTB at an address

component_cases : (P : ℕ → Type 0) → P 0 → P 1 → (component : ℕ) → component ≤ 1 → P component
component_cases P cb cr zero h = cb
component_cases P cb cr (suc zero) h = cr
component_cases P cb cr (suc (suc n)) h = absurd (omega arith)

module _ (i : Input) (k : ℕ) where
  abbrev ctb : Ctb
  ctb = ctb_of i.layout k

  -- of the test of 10, what functions ask
  record Ranges : Type 0 where
    pub luma_sets : luma_set i ctb ≤ 15 + luma_aps_count i ctb
    pub alternatives : (component : ℕ) → component ≤ 1 → chroma_alternative i ctb component ≤ 7
    pub cross_indices : (component : ℕ) → component ≤ 1 → cross_index i ctb component ≤ 4

  ranges : ctb_params_valid_at i k ≡ true → Ranges
  unfolding ctb_params_valid_at ctb_ranges_valid
  ranges e =
      let r = (both (ctb_ranges_valid i ctb) _ e).0 in
      let flags = (both (leb (chroma_flag i ctb 1) 1) _ (both (leb (chroma_flag i ctb 0) 1) _ (both (leb (luma_flag i ctb) 1) _ r).1).1).1 in
      let set = both (leb (luma_set i ctb) (15 + luma_aps_count i ctb)) _ flags in
      let cb = both (leb (chroma_alternative i ctb 0) 7) _ set.1 in
      let cr = both (leb (chroma_alternative i ctb 1) 7) _ cb.1 in
      let cross = both (leb (cross_index i ctb 0) 4) (leb (cross_index i ctb 1) 4) cr.1 in
      record {
        luma_sets = leb-true _ _ set.0;
        alternatives = component_cases _ (leb-true _ _ cb.0) (leb-true _ _ cr.0);
        cross_indices = component_cases _ (leb-true _ _ cross.0) (leb-true _ _ cross.1);
      }

-- ---- an accepted input

module _ (op : Operation) (i : Input) (ok : fault op i ≡ 0) where
  pub accepted-depth : i.layout.picture.bit_depth ≤ 12
  unfolding bit_depth_valid
  accepted-depth = (within_bounds 8 12 i.layout.picture.bit_depth (accepted op i ok).0.bit_depth).1

  lengths : (implies (given op).filters (filter_lengths_valid i) ≡ true) × (implies (given op).fixed (fixed_lengths_valid i) ≡ true)
  unfolding lengths_valid
  lengths =
      let filters = both (implies (given op).filters (filter_lengths_valid i)) _ (accepted op i ok).2 in
      (filters.0, (both (implies (given op).fixed (fixed_lengths_valid i)) _ filters.1).0)

  tables : (implies (given op).filters (parameters_valid i) ≡ true) × (implies (given op).filters (bank_valid i) ≡ true)
      × (implies (given op).fixed (fixed_valid i) ≡ true)
  unfolding tables_fault
  tables =
      let parameters = passed (implies (given op).filters (parameters_valid i)) 9 _ (accepted op i ok).3 in
      let numbers = passed (implies (given op).filters (bank_valid i) && implies (given op).fixed (fixed_valid i)) 10 _ parameters.1 in
      let bank = both (implies (given op).filters (bank_valid i)) (implies (given op).fixed (fixed_valid i)) numbers.0 in
      (parameters.0, bank.0, bank.1)

  -- 8: the slice of a CTB is one of the slices
  slice-below : (k : ℕ) → k < length i.layout.slice_map → get_or i.layout.slice_map k 0 < i.layout.picture.slice_count
  unfolding slices_valid
  slice-below k h =
      let n : ℕ = i.layout.picture.slice_count in
      let slices = (both (every_from 0 (λ _ m. ltb m n) i.layout.slice_map) _ (accepted op i ok).0.slices).0 in
      ltb-true _ n (every-at 0 0 (λ _ m. ltb m n) i.layout.slice_map slices k h)

  module _ (filters : (given op).filters ≡ true) where
    filter_lengths : (length i.slice_params ≡ 11 * i.layout.picture.slice_count) × (length i.bank ≡ 8 * 752)
        × (length i.ctb_params ≡ 8 * total_ctbs i.layout)
    unfolding filter_lengths_valid
    filter_lengths =
        let e = implied (given op).filters (filter_lengths_valid i) lengths.0 filters in
        let slices = both (eqb (length i.slice_params) (11 * i.layout.picture.slice_count)) _ e in
        let bank = both (eqb (length i.bank) (8 * 752)) _ slices.1 in
        (eqb-true _ _ slices.0, eqb-true _ _ bank.0, eqb-true _ _ bank.1)

    parameters : (slice_params_valid i ≡ true) × (all_below (total_ctbs i.layout) (ctb_params_valid_at i) ≡ true)
    unfolding parameters_valid
    parameters = both (slice_params_valid i) _ (implied (given op).filters (parameters_valid i) tables.0 filters)

    slice_range : (n : ℕ) → get_or i.slice_params n 0 ≤ 7
    unfolding slice_params_valid
    slice_range n = leb-true _ 7 (every_entry (λ m. leb m 7) 0 refl 0 i.slice_params parameters.0 n)

    pub accepted-bank : BankNumbers i.bank
    unfolding bank_valid
    accepted-bank =
        let valid = implied (given op).filters (bank_valid i) tables.1 filters in
        record {
          count = filter_lengths.1;
          coefficients = bank_coefficient i.bank accepted-depth valid;
          clips = bank-clip i.bank accepted-depth valid;
        }

    -- the tables of a filter, for the CTB at an address
    pub accepted_tables : (k : ℕ) → k < total_ctbs i.layout → CtbTables i.layout.slice_map i.slice_params i.bank i.ctb_params k
    accepted_tables k h =
        let t = own_tables i (ctb_of i.layout k) (div-add-mod' k (ctb_columns i.layout)) in
        let r = ranges i k (all_at (total_ctbs i.layout) (ctb_params_valid_at i) parameters.1 k h) in
        let in_map : k < length i.layout.slice_map = omega (arith, (table_lengths i.layout (accepted op i ok).0.lengths).slice_map) in
        record {
          slice = record {
            bank_numbers = accepted-bank;
            in_map = in_map;
            slice_numbers = omega (arith, filter_lengths.0, slice-below k in_map);
            slice_range = λ n. slice_range _;
          };
          ctb_numbers = omega (arith, filter_lengths.2);
          luma_sets = rw (own_number t 3, slice-number t 0) at r.luma_sets;
          alternatives = λ component e. rw (own_number t (4 + component)) at (r.alternatives component e);
          cross_indices = λ component e. rw (own_number t (6 + component)) at (r.cross_indices component e);
        }

  -- the luma filter's fixed tables
  pub accepted-fixed : (given op).fixed ≡ true → FixedTables i.layout.picture.bit_depth i.fixed_filters i.fixed_map
  unfolding fixed_lengths_valid fixed_valid
  accepted-fixed fixed =
      let counts = both (eqb (length i.fixed_filters) (64 * 12)) _ (implied (given op).fixed (fixed_lengths_valid i) lengths.1 fixed) in
      let valid = both (every_from 0 (λ _ z. coeff_valid z) i.fixed_filters) _
      (implied (given op).fixed (fixed_valid i) tables.2 fixed) in
      record {
        bit_depth = accepted-depth;
        filter_count = eqb-true _ _ counts.0;
        map_count = eqb-true _ _ counts.1;
        coefficients = λ n. coefficient_range _ (every_entry coeff_valid (pos 0) zero_valid 0 i.fixed_filters valid.0 n);
        map_range = λ n. ltb-true _ 64 (every_entry (λ m. ltb m 64) 0 refl 0 i.fixed_map valid.1 n);
      }
