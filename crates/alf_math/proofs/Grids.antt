-- Laws of the CTB grid. Assumes nothing.
use mathlib.Core.Path.{◌≡◌, ◌∙◌}
use mathlib.Core.Bool.{true}
use Prim.Native.Nat.{ℕ, ◌+◌, ◌-◌, ◌*◌, ◌/◌, ◌%◌, ◌^◌, ◌≤◌, ◌<◌, min}
use native.Mathlib.Nat.{le_trans, one-mul, mul-le-mul, mod-eq_of_lt, le-div_iff_mul-le, div-lt_iff_lt-mul, mul-le-mul_left}
use native.Mathlib.Omega.{arith}
use lib.Dec.{eqb}
use lib.Pow.{pow-lt, pow_mono, pow_pos}
use Rattle.alf_spec.specs.declared.Picture.{Picture}
use Rattle.alf_spec.specs.declared.Grid.{Grid}
use Rattle.alf_spec.specs.Lists.{within}
use Rattle.alf_spec.specs.Input.{Layout}
use Rattle.alf_spec.specs.Geometry.{ctb_size, plane_of, ctb_columns, ctb_rows, total_ctbs}
use Rattle.alf_spec.specs.Faults.{size_valid, picture_size_valid, ctb_size_valid, bit_depth_valid}
use Rattle.alf_spec.proofs.Tests.{both, within_bounds}
use Rattle.alf_spec.proofs.Accepted.{sizes_valid}
use Rattle.alf_math.specs.Grids.{ctbs_along, GridOf}

-- 1 << n in so many bits
pub shifted : (n bits : ℕ) → n < bits → (1 * 2 ^ n) % (2 ^ bits) ≡ 2 ^ n
shifted n bits h = rw one-mul (mod-eq_of_lt (pow-lt h))

-- it is at least 1, and at most 2^12 where n is at most 12
pub power_bounds : (n : ℕ) → n ≤ 12 → (1 ≤ 2 ^ n) × (2 ^ n ≤ 4096) × (2 * 2 ^ (n - 1) ≤ 4096)
power_bounds n h = let p : n - 1 ≤ 11 = omega arith in omega (arith, pow_pos n, pow_mono h, pow_mono p)

-- the CTBs along n samples, as code rounds the quotient up
pub rounded_up : (n s : ℕ) → 0 < s → n / s + min 1 (n % s) ≡ (n + (s - 1)) / s
rounded_up n s h = grind arith

-- the CTBs along 8 to 4,096 samples
pub along_bounds : (s n : ℕ) → (32 ≤ s) × (s ≤ 128) → (8 ≤ n) × (n ≤ 4096) → (0 < (n + (s - 1)) / s) × ((n + (s - 1)) / s ≤ 128)
along_bounds s n hs hn =
    let few : (n + (s - 1)) / s < 129 = (div-lt_iff_lt-mul {k = s} (omega arith)).1 (omega arith) in
    ((le-div_iff_mul-le {k = s} (omega arith)).1 (omega arith), omega arith)

-- the place of a CTB that begins before the end of that many
pub place_bound : {q s n : ℕ} → 32 ≤ s → n ≤ 4096 → q * s < n → q ≤ 128
place_bound {q} {s} {n} low high begins = omega (arith, mul-le-mul_left q low)

-- what an accepted picture says of its sizes
module _ (p : Picture) (sizes : picture_size_valid p ≡ true) (log2 : ctb_size_valid p ≡ true) where
  bounded : (n : ℕ) → size_valid n ≡ true → (8 ≤ n) × (n ≤ 4096)
  bounded n e = within_bounds 8 4096 n (both (eqb (n % 8) 0) (within 8 4096 n) e).1

  pub width_bounds : (8 ≤ p.width) × (p.width ≤ 4096)
  width_bounds = bounded p.width (sizes_valid p sizes).0

  pub height_bounds : (8 ≤ p.height) × (p.height ≤ 4096)
  height_bounds = bounded p.height (sizes_valid p sizes).1

  pub log2_bounds : (5 ≤ p.ctb_log2) × (p.ctb_log2 ≤ 7)
  unfolding ctb_size_valid
  log2_bounds = within_bounds 5 7 p.ctb_log2 log2

  pub ctb_bounds : (32 ≤ ctb_size p) × (ctb_size p ≤ 128)
  unfolding ctb_size
  ctb_bounds = (pow_mono log2_bounds.0, pow_mono log2_bounds.1)

  -- of the CTB's side
  module _ (ctb : ℕ) (side : ctb ≡ 2 ^ p.ctb_log2) where
    pub side_bounds : (0 < ctb) × (ctb ≤ 128)
    unfolding ctb_size
    side_bounds = omega (arith, ctb_bounds)

    pub grid_of : (columns rows : ℕ) → columns ≡ (p.width + (ctb - 1)) / ctb → rows ≡ (p.height + (ctb - 1)) / ctb
        → GridOf p (record { ctb = ctb; columns = columns; rows = rows })
    unfolding ctb_size ctbs_along
    grid_of columns rows wide high =
        let s : (32 ≤ ctb) × (ctb ≤ 128) = rw side ctb_bounds in
        let w = along_bounds ctb p.width s width_bounds in
        let h = along_bounds ctb p.height s height_bounds in
        record {
          ctb = side;
          columns = wide ∙ rw side;
          rows = high ∙ rw side;
          ctb_low = s.0;
          ctb_high = s.1;
          columns_low = rw wide w.0;
          columns_high = rw wide w.1;
          rows_low = rw high h.0;
          rows_high = rw high h.1;
        }

-- the bounds of an accepted bit depth
module _ (p : Picture) (valid : bit_depth_valid p ≡ true) where
  pub depth_bounds : (8 ≤ p.bit_depth) × (p.bit_depth ≤ 12)
  unfolding bit_depth_valid
  depth_bounds = within_bounds 8 12 p.bit_depth valid

  -- the bound of a sample at an accepted bit depth
  pub sample_bound : {n : ℕ} → n < 2 ^ p.bit_depth → n < 4096
  sample_bound h = le_trans h (pow_mono depth_bounds.1)

-- there are at most 128 by 128 CTBs
pub few-ctbs : {p : Picture} {g : Grid} → GridOf p g → g.columns * g.rows ≤ 16384
few-ctbs h = mul-le-mul h.columns_high h.rows_high

pub few_in_layout : (l : Layout) → picture_size_valid l.picture ≡ true → ctb_size_valid l.picture ≡ true → total_ctbs l ≤ 16384
unfolding plane_of
few_in_layout l sizes log2 =
    let s = ctb_bounds l.picture sizes log2 in
    mul-le-mul (along_bounds _ _ s (width_bounds l.picture sizes log2)).1
    (along_bounds _ _ s (height_bounds l.picture sizes log2)).1

-- the grid's numbers are the layout's
module _ (l : Layout) (g : Grid) (h : GridOf l.picture g) where
  pub grid-columns : g.columns ≡ ctb_columns l
  unfolding ctbs_along plane_of
  grid-columns = h.columns

  pub grid-rows : g.rows ≡ ctb_rows l
  unfolding ctbs_along plane_of
  grid-rows = h.rows

  pub grid_total : g.columns * g.rows ≡ total_ctbs l
  grid_total = rw (grid-columns, grid-rows)
