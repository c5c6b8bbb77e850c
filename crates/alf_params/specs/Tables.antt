-- The tables that a CTB's filters are taken from. Assumes nothing.
use Rattle.std.specs.Prelude.{◌≡◌, true, false, List, ℕ, ◌+◌, ◌*◌, ◌%◌, ◌≤◌, ◌<◌, ℤ, pos, length, get_or}
use Rattle.alf_spec.specs.declared.Ctb.{Ctb}
use Rattle.alf_spec.specs.Input.{Input}
use Rattle.alf_spec.specs.Geometry.{address}
use Rattle.alf_spec.specs.Faults.{is_clip}
use Rattle.alf_math.specs.Integers.{CoeffRange, ClipRange}

-- number n of the eleven that the slice of the CTB at address k has
abbrev pub slice_number : List ℕ → List ℕ → ℕ → ℕ → ℕ
slice_number slice_map slice_params k n = get_or slice_params (11 * get_or slice_map k 0 + n) 0

-- number n of the eight that the CTB at address k has
abbrev pub ctb_number : List ℕ → ℕ → ℕ → ℕ
ctb_number ctb_params k n = get_or ctb_params (8 * k + n) 0

-- ---- what functions ask of the tables

-- the eight APSs, each coefficient and each clip in its range; a clip's is that of the largest bit depth
pub record BankNumbers (bank : List ℤ) : Type 0 where
  pub count : length bank ≡ 8 * 752
  pub coefficients : (n : ℕ) → is_clip (n % 752) ≡ false → CoeffRange (get_or bank n (pos 0))
  pub clips : (n : ℕ) → is_clip (n % 752) ≡ true → ClipRange (get_or bank n (pos 0))

-- the numbers of the slice of the CTB at address k are there, and name APSs that are there
pub record SliceTables (slice_map slice_params : List ℕ) (bank : List ℤ) (k : ℕ) : Type 0 where
  pub bank_numbers : BankNumbers bank
  pub in_map : k < length slice_map
  pub slice_numbers : 11 * get_or slice_map k 0 + 11 ≤ length slice_params
  pub slice_range : (n : ℕ) → slice_number slice_map slice_params k n ≤ 7

-- the numbers of the CTB at address k, and of its slice, are there, and name a luma set, alternatives and cross-component filters that are
-- there
pub record CtbTables (slice_map slice_params : List ℕ) (bank : List ℤ) (ctb_params : List ℕ) (k : ℕ) : Type 0 where
  pub slice : SliceTables slice_map slice_params bank k
  pub ctb_numbers : 8 * k + 8 ≤ length ctb_params
  pub luma_sets : ctb_number ctb_params k 3 ≤ 15 + slice_number slice_map slice_params k 0
  pub alternatives : (component : ℕ) → component ≤ 1 → ctb_number ctb_params k (4 + component) ≤ 7
  pub cross_indices : (component : ℕ) → component ≤ 1 → ctb_number ctb_params k (6 + component) ≤ 4

-- the fixed filters and their map, and a bit depth whose clip fits
pub record FixedTables (depth : ℕ) (fixed_filters : List ℤ) (fixed_map : List ℕ) : Type 0 where
  pub bit_depth : depth ≤ 12
  pub filter_count : length fixed_filters ≡ 64 * 12
  pub map_count : length fixed_map ≡ 16 * 25
  pub coefficients : (n : ℕ) → CoeffRange (get_or fixed_filters n (pos 0))
  pub map_range : (n : ℕ) → get_or fixed_map n 0 < 64

-- ---- whose the tables are

-- the input i has these tables, and c is its CTB at address k
pub record TablesGiven (i : Input) (c : Ctb) (slice_map slice_params : List ℕ) (bank : List ℤ) (ctb_params : List ℕ) (k : ℕ) : Type 0 where
  pub same_slice_map : i.layout.slice_map ≡ slice_map
  pub same_slice_params : i.slice_params ≡ slice_params
  pub same_bank : i.bank ≡ bank
  pub same_ctb_params : i.ctb_params ≡ ctb_params
  pub at_address : address i.layout c ≡ k

-- the input i has this bit depth and these fixed tables
pub record FixedOf (i : Input) (depth : ℕ) (fixed_filters : List ℤ) (fixed_map : List ℕ) : Type 0 where
  pub same_depth : i.layout.picture.bit_depth ≡ depth
  pub same_filters : i.fixed_filters ≡ fixed_filters
  pub same_map : i.fixed_map ≡ fixed_map
