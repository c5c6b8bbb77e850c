-- The CTBs of a grid by their addresses: where one lies in the grid and in the picture. Assumes nothing.
use mathlib.Core.Path.{◌≡◌}
use Prim.Native.Nat.{ℕ, suc, ◌+◌, ◌-◌, ◌*◌, ◌/◌, ◌%◌, ◌<◌}
use native.Mathlib.Nat.{mul_comm, mod-lt, div-lt_iff_lt-mul, le-div_iff_mul-le}
use native.Mathlib.Omega.{arith}
use Rattle.alf_spec.specs.declared.Picture.{Picture}
use Rattle.alf_spec.specs.declared.Grid.{Grid}
use Rattle.alf_spec.specs.Geometry.{ctb_size}
use Rattle.alf_math.specs.Grids.{ctbs_along, GridOf}

-- the CTB at place q of n samples begins before their end
begins : (s n q : ℕ) {count : ℕ} → 0 < s → count ≡ (n + (s - 1)) / s → q < count → q * s < n
begins s n q h e l = omega (arith, (le-div_iff_mul-le {k = s} {x = suc q} h).0 (rw e at l))

-- the CTB at address k
module _ {p : Picture} {g : Grid} (h : GridOf p g) (k : ℕ) (below : k < g.columns * g.rows) where
  -- it is in the grid
  pub ctb_in_grid : (k % g.columns < g.columns) × (k / g.columns < g.rows)
  ctb_in_grid = (mod-lt k h.columns_low, (div-lt_iff_lt-mul h.columns_low).1 (rw mul_comm at below))

  -- it begins in the picture
  pub ctb_in_picture : (k % g.columns * g.ctb < p.width) × (k / g.columns * g.ctb < p.height)
  unfolding ctbs_along
  ctb_in_picture =
      let positive : 0 < ctb_size p = omega (arith, h.ctb, h.ctb_low) in
      let column : k % g.columns * ctb_size p < p.width = begins _ _ _ positive h.columns ctb_in_grid.0 in
      let row : k / g.columns * ctb_size p < p.height = begins _ _ _ positive h.rows ctb_in_grid.1 in
      (rw h.ctb column, rw h.ctb row)
