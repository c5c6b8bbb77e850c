-- The copy of a piece, row by row: its parts join, and each row holds what `copy_at` says. Assumes nothing.
use Rattle.std.proofs.Common.{◌≡◌, refl, sym, ap, ◌∙◌, subst, true, ◌&&◌, List, ℕ, zero, suc, ◌+◌, ◌-◌, ◌*◌, ◌%◌, ◌≤◌, ◌<◌, leb, ltb}
use Rattle.std.proofs.Common.{length, get_or, take, drop, length-take, length-drop, add-one, arith}
use Rattle.std.proofs.Math.Seq.{paste, paste-zero}
use Rattle.std.proofs.lemmas.List.{get_or-take, get_or-drop}
use Rattle.std.proofs.lemmas.List.Edits.{paste_more}
use Rattle.std.proofs.lemmas.Slice.{put_mid-paste}
use borrow.Rule.Slice.PartMut.{put_mid}
use Rattle.alf_spec.specs.declared.Sides.{Sides}
use Rattle.alf_spec.specs.Lists.{painted}
use Rattle.alf_spec.proofs.Tests.{cond_either}
use Rattle.alf_pieces.specs.declared.pieces.Piece.{Piece}
use Rattle.alf_pieces.specs.declared.copies.RowRange.{RowRange}
use Rattle.alf_lists.specs.Regions.{between}
use Rattle.alf_pieces.specs.Pieces.{PieceIn}
use Rattle.alf_pieces.specs.Copies.{held, extent, pitch, copy_row, row_lowest, row_limit, row_range, copy_column}
use Rattle.alf_pieces.specs.Copies.{copied, copy_at, run_at, row_at, RowRoom}
use Rattle.alf_lists.proofs.Painted.{Paint, paint_is, paint_of, paint_none, paint_set, paint_call}
use Rattle.alf_lists.proofs.Regions.{run_none, run_more, run_facts, run_join, row_of, row_room}

-- ---- one sample

pub run_value : (plane : List ℕ) (from at i : ℕ) → get_or plane (from + i) 0 ≡ run_at plane from at (at + i)
unfolding run_at
run_value plane from at i = ap (λ (k : ℕ). get_or plane (from + k) 0) (omega arith)

-- a run that the library copies into a part of the copy
module _ (plane copy : List ℕ) (from n at : ℕ) (inside : from + n ≤ length plane) (room : at + n ≤ length copy) where
  abbrev part : List ℕ
  part = take n (drop from plane)

  part-length : length part ≡ n
  part-length = simp (length-take, length-drop) (omega arith)

  pasted : (i : ℕ) → i ≤ n → Paint copy (between at i) (run_at plane from at) (paste copy at part i)
  pasted zero h = subst (λ ys. Paint copy (between at 0) (run_at plane from at) ys) (paste-zero copy at part) (paint_none (λ k. run_none at k))
  pasted (suc i) h =
      let so_far = pasted i (omega arith) in
      let here : i < length part = omega (arith, part-length) in
      let value : get_or part i 0 ≡ run_at plane from at (at + i) =
      get_or-take n (drop from plane) i 0 (omega arith) ∙ get_or-drop from plane i 0 ∙ run_value plane from at i in
      rw (← add-one) (subst (λ ys. Paint copy (between at (i + 1)) (run_at plane from at) ys) (paste_more copy at part i 0 (omega arith) here)
      (paint_set _ _ so_far (omega (arith, so_far.len)) value (λ k _. run_more at i k)))

  pub run_copied : (j k : ℕ) {new : List ℕ} → j ≡ n → k ≡ n → new ≡ take k (drop from plane)
      → put_mid at j copy new ≡ painted copy (between at n) (run_at plane from at)
  run_copied j k e f g =
      put_mid-paste at j copy _ part n (rw f at g) (sym e) (sym part-length) ∙ paint_is (pasted n (omega arith))

module _ (plane : List ℕ) (r : RowRange) (at : ℕ) where
  -- of the margin: p is where the copy's place i lies before it is held
  pub side_value : (i k p column : ℕ) → p ≡ r.start + i - 3 → column ≡ held r.lowest r.limit p → k ≡ at + i
      → get_or plane (r.row + column) 0 ≡ row_at plane r at k
  unfolding row_at
  side_value i k p column e f g =
      let same : p ≡ r.start + (k - at) - 3 = omega arith in
      ap (λ (x : ℕ). get_or plane (r.row + x) 0) (f ∙ ap (λ (x : ℕ). held r.lowest r.limit x) same)

  module _ {n length : ℕ} (room : RowRoom r n length) where
    -- between the margins nothing is held
    mid_value : (k : ℕ) → between (at + 3) n k ≡ true → run_at plane (r.row + r.start) (at + 3) k ≡ row_at plane r at k
    unfolding run_at row_at
    mid_value k t =
        let z = run_facts (at + 3) n k t in
        let m : ℕ = k - (at + 3) in
        let p : r.start + (k - at) - 3 ≡ r.start + m = omega arith in
        let free : held r.lowest r.limit (r.start + m) ≡ r.start + m = omega arith in
        ap (λ (x : ℕ). get_or plane x 0) (omega (arith, ap (λ (x : ℕ). held r.lowest r.limit x) p ∙ free))

    -- the margin, n samples, the margin
    pub row_copied : {c1 c2 c3 : List ℕ} (c0 : List ℕ) → c1 ≡ painted c0 (between (at + 0) 3) (row_at plane r at)
        → c2 ≡ painted c1 (between (at + 3) n) (run_at plane (r.row + r.start) (at + 3))
        → c3 ≡ painted c2 (between (at + (n + 3)) 3) (row_at plane r at)
        → c3 ≡ painted c0 (between at (n + 6)) (row_at plane r at)
    row_copied c0 e1 e2 e3 =
        let two : Paint c0 (between at (n + 3)) (row_at plane r at) _ =
        paint_call _ _ (paint_of e1) e2 (λ k _ t. mid_value k t) (λ k _. run_join at (n + 3) (at + 0) 3 (at + 3) n (omega arith) k) in
        paint_is (paint_call {q = between at (n + 6)} _ _ two e3 (λ k _ t. refl)
        (λ k _. run_join at (n + 6) at (n + 3) (at + (n + 3)) 3 (omega arith) k))

-- ---- row j of the copy of a piece

module _ (columns rows : Piece) (s : Sides) (width j : ℕ) where
  -- what its range holds is what the copy says
  pub row_value : (plane : List ℕ) (k : ℕ) → between (j * pitch columns) (pitch columns) k ≡ true
      → row_at plane (row_range columns rows s width j) (j * pitch columns) k ≡ copy_at columns rows s plane width k
  unfolding row_at row_range copy_column copied copy_at
  row_value plane k t =
      let z = run_facts (j * pitch columns) (pitch columns) k t in
      let r = row_of (pitch columns) j k z.0 z.1 in
      let i : k - j * pitch columns ≡ k % pitch columns = omega arith in
      rw (i, r.0) refl

  -- its range has the piece's columns, and lies in the plane
  pub row_within : {plane : ℕ} → PieceIn width columns → rows.start < rows.limit → rows.limit * width ≤ plane
      → RowRoom (row_range columns rows s width j) (extent columns) plane
  unfolding row_range row_lowest row_limit copy_row
  row_within across high room =
      let v : ℕ = copy_row columns rows s j in
      let low = cond_either (λ x. x ≤ columns.start) (s.upper_left && ltb v rows.start) columns.start columns.lowest
      (omega arith) across.low in
      let limit = cond_either (λ x. (columns.end ≤ x) × (x ≤ width)) (s.lower_right && leb rows.end v) columns.end
      columns.limit (omega (arith, across.high, across.inside)) (across.high, across.inside) in
      record {
        low = low;
        filled = omega (arith, across.filled);
        high = omega (arith, limit, across.filled);
        inside = omega (arith, limit, row_room v rows.limit width _ (omega arith) room);
      }
