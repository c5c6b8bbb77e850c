-- A picture's CTB grid as code has it. Assumes nothing.
use Rattle.std.specs.Prelude.{◌≡◌, true, ℕ, ◌+◌, ◌-◌, ◌/◌, ◌≤◌, ◌<◌}
use Rattle.alf_spec.specs.declared.Picture.{Picture}
use Rattle.alf_spec.specs.declared.Grid.{Grid}
use Rattle.alf_spec.specs.Geometry.{ctb_size}
use Rattle.alf_spec.specs.Faults.{picture_size_valid, ctb_size_valid, bit_depth_valid}

-- the CTBs along n samples: Ceil( n ÷ CtbSizeY )
unfoldable pub ctbs_along : Picture → ℕ → ℕ
ctbs_along p n = (n + (ctb_size p - 1)) / ctb_size p

-- the grid of an accepted picture, and how large it can be
pub record GridOf (p : Picture) (g : Grid) : Type 0 where
  pub ctb : g.ctb ≡ ctb_size p
  pub columns : g.columns ≡ ctbs_along p p.width
  pub rows : g.rows ≡ ctbs_along p p.height
  pub ctb_low : 32 ≤ g.ctb
  pub ctb_high : g.ctb ≤ 128
  pub columns_low : 0 < g.columns
  pub columns_high : g.columns ≤ 128
  pub rows_low : 0 < g.rows
  pub rows_high : g.rows ≤ 128

-- an accepted picture, with its grid: what every function below the judges may take for granted
pub record AcceptedPicture (p : Picture) (g : Grid) : Type 0 where
  pub grid : GridOf p g
  pub sizes : picture_size_valid p ≡ true
  pub ctb_size : ctb_size_valid p ≡ true
  pub depth : bit_depth_valid p ≡ true
