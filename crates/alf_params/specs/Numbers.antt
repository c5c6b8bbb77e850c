-- The numbers of a filter, one by one. Assumes nothing.
use Rattle.std.specs.Prelude.{cond, List, ℕ, ◌+◌, ◌-◌, ◌*◌, ◌/◌, ◌%◌, ◌^◌, ◌≤◌, ◌<◌, ltb, ℤ, pos, get_or}
use Rattle.alf_lists.specs.Regions.{between}
use Rattle.alf_lists.specs.Filled.{Filled}
use Rattle.alf_params.specs.declared.filters.ApsRun.{ApsRun}
use Rattle.alf_params.specs.Tables.{slice_number}

-- a run of a table from index `from` on, put to the indices from `to` on
unfoldable pub copied_from : List ℤ → ℕ → ℕ → ℕ → ℤ
copied_from table from to k = get_or table (from + (k - to)) (pos 0)

-- ---- a run of an APS's numbers

-- it lies in an APS, a slice has the number that says which, and a CTB's filters have room for it
pub record RunInAps (r : ApsRun) : Type 0 where
  pub named : r.name < 11
  pub inside : r.first + r.count ≤ 752
  pub room : r.count ≤ 600

-- the first numbers are the run's, and the others are as they were; k is the address of a CTB, whose slice says which APS
pub record FromAps (slice_map slice_params : List ℕ) (bank : List ℤ) (k : ℕ) (r : ApsRun) (old new : List ℤ) : Type 0 where
  pub filled : Filled (pos 0) old (between 0 r.count)
      (copied_from bank (752 * slice_number slice_map slice_params k r.name + r.first) 0) new

-- a set of luma filters that is not fixed: 12 coefficients and 12 clips for each of 25 classes
abbrev pub luma_run : ℕ → ApsRun
luma_run set = record { name = 1 + (set - 16); first = 0; count = 600 }

-- an alternative of the chroma filter: 6 coefficients and 6 clips
abbrev pub chroma_run : ℕ → ApsRun
chroma_run alternative = record { name = 8; first = 600 + 12 * alternative; count = 12 }

-- a cross-component filter of a component, by its index, which counts from 1: 7 coefficients, four filters for Cb and then four for Cr
abbrev pub cross_run : ℕ → ℕ → ApsRun
cross_run component index = record { name = 9 + component; first = 696 + 28 * component + 7 * (index - 1); count = 7 }

-- ---- a fixed set

-- the fixed set's filters in the form of an APS: 24 numbers a class, 12 fixed coefficients and 12 clips that are 2^BitDepth
unfoldable pub fixed_number : ℕ → ℕ → List ℤ → List ℕ → ℕ → ℤ
fixed_number depth set fixed_filters fixed_map k =
    cond (ltb (k % 24) 12) (get_or fixed_filters (12 * get_or fixed_map (25 * set + k / 24) 0 + k % 24) (pos 0)) (pos (2 ^ depth))
