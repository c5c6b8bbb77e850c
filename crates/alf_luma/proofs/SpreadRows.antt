-- Rows of samples that are filtered with spread filters, by index of the plane: where the filters of a row of blocks are spread, they are
-- the piece's filtered samples. Assumes nothing.
use mathlib.Core.Path.{◌≡◌, sym, ap, ◌∙◌}
use mathlib.Core.Bool.{true}
use mathlib.Core.List.{List}
use Prim.Native.Nat.{ℕ, ◌+◌, ◌-◌, ◌*◌, ◌/◌, ◌%◌, ◌≤◌, ◌<◌}
use native.Mathlib.Omega.{arith}
use lib.IntN.{ℤ}
use Rattle.alf_spec.specs.declared.Picture.{Picture}
use Rattle.alf_spec.specs.Arithmetic.{filtered}
use Rattle.alf_pieces.specs.declared.pieces.Piece.{Piece}
use Rattle.alf_lists.specs.Regions.{between, in_rect}
use Rattle.alf_pieces.specs.Copies.{extent, pitch}
use Rattle.alf_lists.proofs.Regions.{run_facts, row_of, rect_facts}
use Rattle.alf_taps.proofs.SpreadTaps.{taps_same}
use Rattle.alf_luma.specs.Kernel.{current, plus_samples, minus_samples, filtered_at, row_from}
use Rattle.alf_luma.specs.Samples.{luma_rows_at_row, starts_of, spread_sample_at, piece_class, luma_copy_sample, luma_copy_sample_at}
use Rattle.alf_luma.proofs.SpreadFilters.{RowFilters, own_coeff, own_clip}

pub row_value : (p : Picture) (ctb : ℕ) (copy : List ℕ) (taps : List ℤ) (left n top t i k : ℕ) → left + n ≤ p.width
    → between ((top + i) * p.width + left) n k ≡ true → let r = luma_rows_at_row p.height ctb (top + i) in
    row_from p.bit_depth r.shift copy taps (starts_of (n + 6) (t + i) r) ((top + i) * p.width + left) k
    ≡ spread_sample_at p ctb copy taps left n top t k
unfolding spread_sample_at
row_value p ctb copy taps left n top t i k fits run =
    let h = run_facts ((top + i) * p.width + left) n k run in
    let at = row_of p.width (top + i) k (omega arith) (omega arith) in
    let row : top + i ≡ k / p.width = sym at.0 in
    let own : t + i ≡ t + (k / p.width - top) = omega arith in
    let column : k - ((top + i) * p.width + left) ≡ k % p.width - left = omega arith in
    λ u. filtered_at p.bit_depth (luma_rows_at_row p.height ctb (row u)).shift copy taps
    (starts_of (n + 6) (own u) (luma_rows_at_row p.height ctb (row u))) (column u)

module _ (p : Picture) (ctb : ℕ) (copy : List ℕ) (columns rows : Piece) (filters taps : List ℤ) (row : ℕ)
    (spread : RowFilters filters taps (λ b. piece_class p ctb copy columns rows b row) (extent columns)) where
  pub blocks_value : (k : ℕ) → in_rect p.width columns.start columns.end (rows.start + 4 * row)
      (rows.start + 4 * row + 4) k ≡ true
      → spread_sample_at p ctb copy taps columns.start (extent columns) (rows.start + 4 * row) (4 * row) k
      ≡ luma_copy_sample_at p ctb copy columns rows filters k
  unfolding spread_sample_at filtered_at luma_copy_sample
  blocks_value k inside =
      let f = rect_facts p.width columns.start columns.end (rows.start + 4 * row) (rows.start + 4 * row + 4) k inside in
      let y : ℕ = k / p.width in
      let s : ℕ = k % p.width - columns.start in
      let r = luma_rows_at_row p.height ctb y in
      let own : 4 * row + (y - (rows.start + 4 * row)) ≡ y - rows.start = omega arith in
      let block : row ≡ (y - rows.start) / 4 = omega arith in
      let column : s < extent columns = omega arith in
      let starts = starts_of (pitch columns) (y - rows.start) r in
      ap (λ (t : ℕ). filtered_at p.bit_depth r.shift copy taps (starts_of (pitch columns) t r) s) own
      ∙ ap (filtered p.bit_depth r.shift (current copy starts s))
      (taps_same 12 (current copy starts s) (plus_samples copy starts s) (minus_samples copy starts s)
      (λ j h. spread.coefficients s j column h ∙ ap (λ (b : ℕ). own_coeff filters (piece_class p ctb copy columns rows (s / 4) b) j) block)
      (λ j h. spread.clips s j column h ∙ ap (λ (b : ℕ). own_clip filters (piece_class p ctb copy columns rows (s / 4) b) j) block))
