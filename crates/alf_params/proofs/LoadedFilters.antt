-- What the numbers copied from the tables are: the filters of the CTB. Assumes nothing.
use mathlib.Core.Path.{◌≡◌, refl, ap, ◌∙◌}
use mathlib.Core.List.{List}
use mathlib.Core.Logic.{⊎_elim}
use Prim.Native.Nat.{ℕ, zero, suc, ◌+◌, ◌-◌, ◌*◌, ◌^◌, ◌≤◌, ◌<◌}
use native.Mathlib.Omega.{arith}
use borrow.Author.Tests.{lt-ltb, le-ltb}
use lib.IntN.{ℤ, pos}
use lib.ListN.{length, get_or, replicate, get_or-eq_default}
use lib.Pow.{pow_mono}
use Rattle.alf_spec.specs.declared.Ctb.{Ctb}
use Rattle.alf_spec.specs.Input.{Input}
use Rattle.alf_spec.specs.Parameters.{slice_param, cross_aps, cross_index, bank_number, cross_coeff, fixed_coeff}
use Rattle.alf_spec.specs.Luma.{luma_f, luma_c}
use Rattle.alf_spec.proofs.Tests.{never}
use Rattle.alf_math.specs.Integers.{CoeffRange, ClipRange}
use Rattle.alf_lists.specs.Regions.{between}
use Rattle.alf_lists.specs.Filled.{Filled}
use Rattle.alf_lists.proofs.Painted.{fill_in, fill_out}
use Rattle.alf_lists.proofs.Regions.{in_run, run_facts, order}
use Rattle.alf_params.specs.declared.filters.ApsRun.{ApsRun}
use Rattle.alf_params.specs.Filters.{LumaFilters, FilterNumbers, ChromaFilter}
use Rattle.alf_params.specs.Tables.{slice_number, ctb_number, CtbTables, FixedTables, TablesGiven, FixedOf}
use Rattle.alf_params.specs.Numbers.{copied_from, FromAps, luma_run, chroma_run, cross_run, fixed_number}
use Rattle.alf_params.proofs.TableNumbers.{own_number, slice-number, bank-number}
use Rattle.alf_params.proofs.BankRanges.{number_in, piece_of, luma_coefficient, luma-clip, chroma_coefficient, chroma-clip}
use Rattle.alf_params.proofs.BankRanges.{cross_coefficient}

-- an array that a caller fills with 0
pub zeros : (n j : ℕ) → get_or (replicate n (pos 0)) j (pos 0) ≡ pos 0
zeros zero j = refl
zeros (suc n) zero = refl
zeros (suc n) (suc j) = zeros n j

-- a run of an APS's numbers, copied to the front
module _ {slice_map slice_params : List ℕ} {bank : List ℤ} {k : ℕ} {run : ApsRun} {xs ys : List ℤ}
    (P : FromAps slice_map slice_params bank k run xs ys) (room : run.count ≤ length xs) where
  -- number j of them is the APS's number p
  from_aps : (j p : ℕ) → j < run.count → run.first + j ≡ p
      → get_or ys j (pos 0) ≡ get_or bank (752 * slice_number slice_map slice_params k run.name + p) (pos 0)
  unfolding copied_from
  from_aps j p h e =
      fill_in P.filled j (omega arith) (in_run 0 run.count j (omega arith)) ∙ ap (λ (m : ℕ). get_or bank m (pos 0)) (omega arith)

  -- number j of them is the number p of the APS of the input i
  from_input : {i : Input} {c : Ctb} {ctb_params : List ℕ} → TablesGiven i c slice_map slice_params bank ctb_params k
      → (j p : ℕ) → j < run.count → run.first + j ≡ p → get_or ys j (pos 0) ≡ bank_number i (slice_param i c run.name) p
  from_input t j p h e = rw (slice-number t run.name, bank-number t) (from_aps j p h e)

module _ {slice_map slice_params ctb_params : List ℕ} {bank : List ℤ} {k : ℕ} (T : CtbTables slice_map slice_params bank ctb_params k)
    {xs ys : List ℤ} (room : length xs ≡ 600) where
  -- an alternative of the slice's chroma APS
  module _ {component : ℕ} (is : component ≤ 1)
      (P : FromAps slice_map slice_params bank k (chroma_run (ctb_number ctb_params k (4 + component))) xs ys) where
    pub chroma-coefficients : (j : ℕ) → j < 6 → CoeffRange (get_or ys j (pos 0))
    chroma-coefficients j h =
        rw (from_aps P (omega arith) j _ (omega arith) refl)
        (chroma_coefficient T.slice.bank_numbers _ _ j (T.alternatives component is) h)

    pub chroma-clips : (j : ℕ) → j < 6 → ClipRange (get_or ys (6 + j) (pos 0))
    chroma-clips j h =
        rw (from_aps P (omega arith) (6 + j) _ (omega arith) refl)
        (chroma-clip T.slice.bank_numbers _ _ (6 + j) (T.alternatives component is) (omega arith) (omega arith))

    pub chroma_filter : (i : Input) (c : Ctb) → TablesGiven i c slice_map slice_params bank ctb_params k → ChromaFilter i c component ys
    chroma_filter i c t = record {
      coefficients = λ j h. rw (own_number t (4 + component)) (from_input P (omega arith) t j _ (omega arith) refl);
      clips = λ j h. rw (own_number t (4 + component)) (from_input P (omega arith) t (6 + j) _ (omega arith) (omega arith));
    }

  -- a filter of the slice's cross-component APS; what is not written is 0
  module _ {component : ℕ} (is : component ≤ 1) (on : 0 < ctb_number ctb_params k (6 + component))
      (empty : (j : ℕ) → get_or xs j (pos 0) ≡ pos 0)
      (P : FromAps slice_map slice_params bank k (cross_run component (ctb_number ctb_params k (6 + component))) xs ys) where
    rest_zero : (j : ℕ) → 7 ≤ j → get_or ys j (pos 0) ≡ pos 0
    rest_zero j h =
        ⊎_elim (λ l. fill_out P.filled j (omega arith) (never _ (λ t. let z = run_facts 0 7 j t in omega arith)) ∙ empty j)
        (λ l. get_or-eq_default ys (pos 0) {n = j} (omega (arith, P.filled.len))) (order j 600)

    pub cross_coefficients : (j : ℕ) → CoeffRange (get_or ys j (pos 0))
    cross_coefficients j =
        ⊎_elim
        (λ l.
        rw (from_aps P (omega arith) j _ l refl)
        (cross_coefficient T.slice.bank_numbers _ _ (omega arith) (omega (arith, T.cross_indices component is))))
        (λ l. rw (rest_zero j l) (omega arith)) (order j 7)

    pub cross_filter : (i : Input) (c : Ctb) → TablesGiven i c slice_map slice_params bank ctb_params k
        → (j : ℕ) → j < 7 → get_or ys j (pos 0) ≡ cross_coeff i (cross_aps i c component) component (cross_index i c component - 1) j
    cross_filter i c t j h = rw (own_number t (6 + component)) (from_input P (omega arith) t j _ h refl)

  -- the filters of one of the slice's luma APSs
  module _ {set : ℕ} (v : set ≡ ctb_number ctb_params k 3) (late : 16 ≤ set)
      (P : FromAps slice_map slice_params bank k (luma_run set) xs ys) where
    pub aps_numbers : FilterNumbers ys
    aps_numbers = record {
      count = P.filled.len ∙ room;
      coefficients = λ f j class tap.
          rw (from_aps P (omega arith) (24 * f + j) (24 * f + j) (omega arith) (omega arith))
          (luma_coefficient T.slice.bank_numbers _ f j class tap);
      clips = λ f j class tap.
          rw (from_aps P (omega arith) (24 * f + (12 + j)) (24 * f + (12 + j)) (omega arith) (omega arith))
          (luma-clip T.slice.bank_numbers _ f j class tap);
    }

    pub aps_filters : (i : Input) (c : Ctb) → TablesGiven i c slice_map slice_params bank ctb_params k → LumaFilters i c ys
    unfolding luma_f luma_c
    aps_filters i c t = record {
      coefficients = λ f j class tap.
          rw (own_number t 3, ← v, le-ltb set 16 late) (from_input P (omega arith) t (24 * f + j) _ (omega arith) (omega arith));
      clips = λ f j class tap.
          rw (own_number t 3, ← v, le-ltb set 16 late) (from_input P (omega arith) t (24 * f + (12 + j)) _ (omega arith) (omega arith));
    }

  -- the filters of a fixed set
  module _ {depth set : ℕ} {fixed_filters : List ℤ} {fixed_map : List ℕ} (F : FixedTables depth fixed_filters fixed_map)
      (v : set ≡ ctb_number ctb_params k 3) (early : set < 16)
      (P : Filled (pos 0) xs (between 0 600) (fixed_number depth set fixed_filters fixed_map) ys) where
    fixed_coefficient : (f j : ℕ) → f < 25 → j < 12
        → get_or ys (24 * f + j) (pos 0) ≡ get_or fixed_filters (12 * get_or fixed_map (25 * set + f) 0 + j) (pos 0)
    unfolding fixed_number
    fixed_coefficient f j class tap =
        fill_in P (24 * f + j) (omega arith) (in_run 0 600 (24 * f + j) (omega arith))
        ∙ rw (number_in 24 f j (omega arith), piece_of 24 f j (omega arith), lt-ltb j 12 tap)

    fixed-clip : (f j : ℕ) → f < 25 → j < 12 → get_or ys (24 * f + (12 + j)) (pos 0) ≡ pos (2 ^ depth)
    unfolding fixed_number
    fixed-clip f j class tap =
        fill_in P (24 * f + (12 + j)) (omega arith) (in_run 0 600 (24 * f + (12 + j)) (omega arith))
        ∙ rw (number_in 24 f (12 + j) (omega arith), le-ltb (12 + j) 12 (omega arith))

    pub fixed-numbers : FilterNumbers ys
    fixed-numbers = record {
      count = P.len ∙ room;
      coefficients = λ f j class tap. rw (fixed_coefficient f j class tap) (F.coefficients _);
      clips = λ f j class tap. rw (fixed-clip f j class tap) (record { level = refl; small = pow_mono F.bit_depth });
    }

    pub fixed-filters : (i : Input) (c : Ctb) → TablesGiven i c slice_map slice_params bank ctb_params k
        → FixedOf i depth fixed_filters fixed_map
        → LumaFilters i c ys
    unfolding luma_f luma_c fixed_coeff
    fixed-filters i c t g = record {
      coefficients = λ f j class tap.
          rw (own_number t 3, ← v, lt-ltb set 16 early, g.same_filters, g.same_map) (fixed_coefficient f j class tap);
      clips = λ f j class tap. rw (own_number t 3, ← v, lt-ltb set 16 early, g.same_depth) (fixed-clip f j class tap);
    }
