-- The samples of a plane, by column and row and by index; CTBs, by column and row and by address. Assumes nothing.
use mathlib.Core.Path.{◌≡◌, ◌∙◌}
use Prim.Native.Nat.{ℕ, zero, suc, ◌+◌, ◌*◌, ◌/◌, ◌%◌, ◌<◌}
use native.Mathlib.Nat.{zero-mul, zero-lt-suc, not-suc-le-zero, mul_comm, mul-le-mul_left, mul-add-mod_self_right, mod-eq_of_lt, mod-lt}
use native.Mathlib.Nat.{div-eq_of_lt-le, div-lt_iff_lt-mul, div-add-mod'}
use native.Mathlib.Omega.{arith}
use Rattle.alf_spec.specs.declared.Ctb.{Ctb}
use Rattle.alf_spec.specs.Input.{Layout}
use Rattle.alf_spec.specs.Geometry.{Plane, samples, plane_length, index_of, column_of, row_of, ctb_columns, ctb_rows, total_ctbs, address}
use Rattle.alf_spec.specs.Geometry.{ctb_of}

-- the place at column x and row y, of a grid that is counted row by row
module _ (columns rows x y : ℕ) (column : x < columns) (row : y < rows) where
  pub place-below : y * columns + x < columns * rows
  place-below = omega (arith, mul-le-mul_left columns row)

  pub place-column : (y * columns + x) % columns ≡ x
  place-column = mul-add-mod_self_right y columns x ∙ mod-eq_of_lt column

  pub place-row : (y * columns + x) / columns ≡ y
  place-row = div-eq_of_lt-le columns (omega arith) (omega arith)

-- a sample has its own index
module _ (g : Plane) (x y : ℕ) (column : x < samples g.columns) (row : y < samples g.rows) where
  pub index_below : index_of g x y < plane_length g
  index_below = place-below (samples g.columns) (samples g.rows) x y column row

  pub index_column : column_of g (index_of g x y) ≡ x
  index_column = place-column (samples g.columns) (samples g.rows) x y column row

  pub index_row : row_of g (index_of g x y) ≡ y
  index_row = place-row (samples g.columns) (samples g.rows) x y column row

-- a CTB has its own address
module _ (l : Layout) (c : Ctb) (column : c.column < ctb_columns l) (row : c.row < ctb_rows l) where
  pub address_below : address l c < total_ctbs l
  address_below = place-below (ctb_columns l) (ctb_rows l) c.column c.row column row

  pub address-ctb : ctb_of l (address l c) ≡ c
  address-ctb = rw (
    place-column (ctb_columns l) (ctb_rows l) c.column c.row column row,
    place-row (ctb_columns l) (ctb_rows l) c.column c.row column row,
  )

positive : (n m k : ℕ) → k < n * m → 0 < n
positive zero m k h = absurd (not-suc-le-zero (rw zero-mul at h))
positive (suc n) m k h = zero-lt-suc n

-- an index has its sample
module _ (g : Plane) (k : ℕ) (h : k < plane_length g) where
  pub column-below : column_of g k < samples g.columns
  column-below = mod-lt k (positive (samples g.columns) (samples g.rows) k h)

  pub row_below : row_of g k < samples g.rows
  row_below = (div-lt_iff_lt-mul (positive (samples g.columns) (samples g.rows) k h)).1 (rw mul_comm at h)

  pub index_place : index_of g (column_of g k) (row_of g k) ≡ k
  index_place = div-add-mod' k (samples g.columns)
