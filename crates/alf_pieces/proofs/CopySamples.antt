-- What stands in the copy of a piece, and which neighbours of a sample stand in it. Assumes nothing.
use mathlib.Core.Path.{◌≡◌, ap₂, ◌∙◌}
use mathlib.Core.List.{List}
use Prim.Native.Nat.{ℕ, ◌+◌, ◌-◌, ◌*◌, ◌%◌, ◌≤◌, ◌<◌}
use native.Mathlib.Nat.{mul_comm}
use native.Mathlib.Omega.{arith}
use lib.ListN.{length, get_or}
use Rattle.alf_spec.specs.declared.Sides.{Sides}
use Rattle.alf_spec.specs.Lists.{painted}
use Rattle.alf_spec.specs.Geometry.{Axis}
use Rattle.alf_spec.proofs.Planes.{place-below, place-column, place-row}
use Rattle.alf_spec.proofs.Ratios.{Ratio}
use Rattle.alf_spec.proofs.IsolatedRegions.Reach.{reach_luma, reach_window, reach_chroma}
use Rattle.alf_pieces.specs.declared.pieces.Piece.{Piece}
use Rattle.alf_lists.specs.Regions.{between}
use Rattle.alf_pieces.specs.Copies.{pitch, copy_length, copied, copy_at}
use Rattle.alf_lists.proofs.Painted.{paint_of, paint_in}
use Rattle.alf_lists.proofs.Regions.{in_run}
use Rattle.alf_pieces.proofs.PieceFacts.{InPiece}

-- a copy as `copy_piece` leaves it
module _ (columns rows : Piece) (s : Sides) (plane copy copy0 : List ℕ) (width : ℕ)
    (filled : copy ≡ painted copy0 (between 0 (copy_length columns rows)) (copy_at columns rows s plane width))
    (room : copy_length columns rows ≤ length copy0) where
  at_index_lem : (k : ℕ) → k < copy_length columns rows → get_or copy k 0 ≡ copy_at columns rows s plane width k
  at_index_lem k h = paint_in (paint_of filled) k (omega arith) (in_run 0 (copy_length columns rows) k (omega arith))

  -- at column i and row j
  pub copy_at_lem : (i j : ℕ) → i < pitch columns → j < pitch rows → get_or copy (j * pitch columns + i) 0 ≡ copied columns rows s plane width i j
  unfolding copy_at
  copy_at_lem i j column row =
      at_index_lem (j * pitch columns + i) (rw (mul_comm (pitch columns) (pitch rows)) at
      (place-below (pitch columns) (pitch rows) i j column row))
      ∙ ap₂ (copied columns rows s plane width) (place-column (pitch columns) (pitch rows) i j column row)
      (place-row (pitch columns) (pitch rows) i j column row)

  -- each is a sample of the plane, or 0 past its end
  pub copy_small : (top : ℕ) → ((k : ℕ) → get_or plane k 0 < top) → (k : ℕ) → k < copy_length columns rows → get_or copy k 0 < top
  unfolding copy_at copied
  copy_small top small k h = rw (at_index_lem k h) (small _)

-- ---- neighbours in reach

module _ (a : Axis) (p : Piece) where
  -- chroma taps: up to 2 of the plane's own samples either way
  pub chroma_in : (x u : ℕ) → Ratio a.ratio → p.start ≤ x → x < p.end → x ≤ u + 2 → u ≤ x + 2 → InPiece a p x u
  chroma_in x u ratio low high near near' = record { low = low; high = high; reach = reach_chroma a.ratio ratio x u near near' }

  -- luma and cross-component taps: up to 3 either way
  pub luma_in : (x u : ℕ) → a.ratio ≡ 1 → p.start ≤ x → x < p.end → x ≤ u + 3 → u ≤ x + 3 → InPiece a p x u
  luma_in x u whole low high near near' = record { low = low; high = high; reach = rw whole (reach_luma x u near near') }

  -- the class window: from a block's first sample, 3 before and 6 after
  pub window_in : (x i : ℕ) → a.ratio ≡ 1 → p.start ≤ x → x < p.end → x % 4 ≡ 0 → i < 10 → InPiece a p x (x + i - 3)
  window_in x i whole low high first h = record {
    low = low;
    high = high;
    reach = rw whole (reach_window x (x + i - 3) first (omega arith) (omega arith));
  }
