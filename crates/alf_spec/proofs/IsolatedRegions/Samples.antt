-- Equal reads give equal classes and, where the filters of the sample's CTB are the same, equal filtered samples. Assumes nothing.
use mathlib.Core.Path.{◌≡◌, ◌∙◌, ap}
use mathlib.Core.List.{List, map}
use Prim.Native.Nat.{ℕ, ◌+◌, ◌-◌, ◌*◌, ◌/◌, ◌%◌, ◌≤◌, ◌<◌}
use native.Mathlib.Omega.{arith}
use lib.IntN.{ℤ}
use Rattle.alf_spec.specs.declared.Ctb.{Ctb}
use Rattle.alf_spec.specs.declared.Class.{Class}
use Rattle.alf_spec.specs.Lists.{elem}
use Rattle.alf_spec.specs.Arithmetic.{distance, tap_sum, filtered}
use Rattle.alf_spec.specs.Input.{Layout, Input, input_of}
use Rattle.alf_spec.specs.Geometry.{Plane, sub_width, sub_height, plane_of, luma_plane, chroma_plane, luma_position, ctb_at, address}
use Rattle.alf_spec.specs.Padding.{read}
use Rattle.alf_spec.specs.Parameters.{ctb_param, slice_param, bank_number, fixed_coeff}
use Rattle.alf_spec.specs.Classes.{class_window, class_of, block_class}
use Rattle.alf_spec.specs.Luma.{luma_f, luma_c, luma_plus, luma_minus, luma_rows_at, luma_with, luma_sample}
use Rattle.alf_spec.specs.Chroma.{chroma_plus, chroma_minus, chroma_with, chroma_sample}
use Rattle.alf_spec.specs.CrossComponent.{cross_taps, cross_sum, corrected, cross_with, cross_sample}
use Rattle.alf_spec.specs.Isolation.{inside}
use Rattle.alf_spec.proofs.Lists.{tabulate-same, Each, map_same}
use Rattle.alf_spec.proofs.IsolatedRegions.Inside.{Inside, SameInside, luma-inside}
use Rattle.alf_spec.proofs.IsolatedRegions.TapPositions.{Around, here, luma_offsets, luma_taps, chroma_offsets, chroma_taps}
use Rattle.alf_spec.proofs.IsolatedRegions.TapPositions.{cross_taps_lem}
use Rattle.alf_spec.proofs.Ratios.{chroma_ratios}
use Rattle.alf_spec.proofs.IsolatedRegions.Reach.{Reach, reach_luma, reach_window, reach_chroma, SameReads}

-- ---- reads, windows and classes

module _ (l : Layout) (region : List ℕ) (plane plane' : List ℕ) where
  -- the reads up to n from a sample inside are the same in both planes
  abbrev ReadsAround : ℕ → Plane → Type 0
  ReadsAround n g = (x y : ℕ) → Inside l region g x y → (p : ℕ × ℕ) → Around n x y p
      → read l g x y plane p.0 p.1 ≡ read l g x y plane' p.0 p.1

  reads_around : (n : ℕ) (g : Plane)
      → ((x p : ℕ) → x ≤ p + n → p ≤ x + n → Reach (luma_position g.columns x) (luma_position g.columns p))
      → ((y q : ℕ) → y ≤ q + n → q ≤ y + n → Reach (luma_position g.rows y) (luma_position g.rows q))
      → SameReads l region g plane plane' → ReadsAround n g
  unfolding distance
  reads_around n g columns rows same x y s p near =
      same x y s p.0 p.1 (columns x p.0 (omega arith) (omega arith)) (rows y p.1 (omega arith) (omega arith))

  luma_reads_lem : SameReads l region (luma_plane l) plane plane' → ReadsAround 3 (luma_plane l)
  unfolding plane_of
  luma_reads_lem = reads_around 3 (luma_plane l) reach_luma reach_luma

  chroma_reads_lem : SameReads l region (chroma_plane l) plane plane' → ReadsAround 2 (chroma_plane l)
  unfolding plane_of
  chroma_reads_lem =
      let ratios = chroma_ratios l.picture in
      reads_around 2 (chroma_plane l) (reach_chroma _ ratios.0) (reach_chroma _ ratios.1)

  -- the class of a block whose first sample lies inside
  pub same_class : SameReads l region (luma_plane l) plane plane' → (x y : ℕ) → x % 4 ≡ 0 → y % 4 ≡ 0 → Inside l region (luma_plane l) x y
      → block_class l plane x y ≡ block_class l plane' x y
  unfolding plane_of class_window block_class
  same_class same x y qx qy s =
      ap (class_of l.picture.bit_depth _)
      (tabulate-same 100 _ _ (λ k h. same x y s (x + k % 10 - 3) (y + k / 10 - 3)
      (reach_window x (x + k % 10 - 3) qx (omega arith) (omega arith))
      (reach_window y (y + k / 10 - 3) qy (omega arith) (omega arith))))

-- the first sample of a sample's 4 by 4 block lies in the same 8 by 8 block
block_inside : (l : Layout) (region : List ℕ) (x y : ℕ) → Inside l region (luma_plane l) x y
    → Inside l region (luma_plane l) (x / 4 * 4) (y / 4 * 4)
unfolding plane_of inside
block_inside l region x y s =
    let column = s.column in
    let row = s.row in
    let qx : x / 4 * 4 * 1 / 8 ≡ x * 1 / 8 = omega arith in
    let qy : y / 4 * 4 * 1 / 8 ≡ y * 1 / 8 = omega arith in
    record { column = omega arith; row = omega arith; position = rw (qx, qy) s.position }

-- ---- filters

-- the input with this layout
abbrev pub at_layout : Layout → Input → Input
at_layout l i =
    input_of l i.luma i.chroma i.slice_params i.bank i.ctb_params i.ctb_list i.fixed_filters i.fixed_map
    i.output_length

-- the filters' tables are the same for a CTB
pub record SameFilters (i j : Input) (c : Ctb) : Type 0 where
  pub slice_params : i.slice_params ≡ j.slice_params
  pub bank : i.bank ≡ j.bank
  pub ctb_params : (n : ℕ) → n < 8 → ctb_param i c n ≡ ctb_param j c n
  pub listed : elem (address i.layout c) i.ctb_list ≡ elem (address j.layout c) j.ctb_list

-- two ways to read, the same at the positions P: the same filtered sample, by the same coefficients and clips
module _ {P : ℕ × ℕ → Type 0} {value value' : ℕ × ℕ → ℕ} (same : (p : ℕ × ℕ) → P p → value p ≡ value' p) {middle : ℕ × ℕ} (m : P middle)
    (depth : ℕ) where
  same-filtered : (shift n : ℕ) (plus minus : List (ℕ × ℕ)) → Each P plus × Each P minus
      → {f f' c c' : ℕ → ℤ} → ((j : ℕ) → f j ≡ f' j) → ((j : ℕ) → c j ≡ c' j)
      → filtered depth shift (value middle) (tap_sum n (value middle) f c (map value plus) (map value minus))
      ≡ filtered depth shift (value' middle) (tap_sum n (value' middle) f' c' (map value' plus) (map value' minus))
  same-filtered shift n plus minus near ef ec =
      λ t. filtered depth shift (same middle m t)
      (tap_sum n (same middle m t) (λ j. ef j t) (λ j. ec j t)
      (map_same P value value' same plus near.0 t) (map_same P value value' same minus near.1 t))

  same-corrected : (taps : List (ℕ × ℕ)) → Each P taps → {curr curr' : ℕ} → curr ≡ curr' → {f f' : ℕ → ℤ} → ((j : ℕ) → f j ≡ f' j)
      → corrected depth curr (cross_sum (value middle) f (map value taps)) ≡ corrected depth curr'
      (cross_sum (value' middle) f' (map value' taps))
  same-corrected taps near e ef = λ t. corrected depth (e t)
      (cross_sum (same middle m t) (λ j. ef j t) (map_same P value value' same taps near t))

module _ (l : Layout) (region : List ℕ) (i j : Input) where
  -- the luma filter is given the fixed tables as well
  pub same-luma : i.fixed_filters ≡ j.fixed_filters → i.fixed_map ≡ j.fixed_map → SameReads l region (luma_plane l) i.luma j.luma
      → (x y : ℕ) → Inside l region (luma_plane l) x y → SameFilters (at_layout l i) (at_layout l j) (ctb_at (luma_plane l) x y)
      → luma_sample (at_layout l i) x y ≡ luma_sample (at_layout l j) x y
  unfolding luma_sample luma_with luma_f luma_c slice_param bank_number fixed_coeff
  same-luma ef em reads x y s filters =
      let set = filters.ctb_params 3 (omega arith) in
      ap (λ (c : Class). luma_with (at_layout l i) x y c (luma_rows_at (at_layout l i) x y))
      (same_class l region i.luma j.luma reads (x / 4 * 4) (y / 4 * 4) (omega arith) (omega arith) (block_inside l region x y s))
      ∙ same-filtered (luma_reads_lem l region i.luma j.luma reads x y s) (here 3 x y) _ _ 12
      (luma_plus x y _) (luma_minus x y _) (luma_taps x y _ (luma_offsets _ _)) (λ n. cc set) (λ n. cc set)

  module _ (component : ℕ) (valid : component ≤ 1) where
    pub same-chroma : SameReads l region (chroma_plane l) i.chroma j.chroma
        → (x y : ℕ) → Inside l region (chroma_plane l) x y → SameFilters (at_layout l i) (at_layout l j) (ctb_at (chroma_plane l) x y)
        → chroma_sample (at_layout l i) component x y ≡ chroma_sample (at_layout l j) component x y
    unfolding chroma_sample chroma_with slice_param bank_number
    same-chroma reads x y s filters =
        let alternative = filters.ctb_params (4 + component) (omega arith) in
        same-filtered (chroma_reads_lem l region i.chroma j.chroma reads x y s) (here 2 x y) _ _ 6
        (chroma_plus x y _) (chroma_minus x y _) (chroma_taps x y _ (chroma_offsets _ _)) (λ n. cc alternative) (λ n. cc alternative)

    pub same_cross : SameReads l region (luma_plane l) i.luma j.luma → SameInside l region (chroma_plane l) i.chroma j.chroma
        → (x y : ℕ) → Inside l region (chroma_plane l) x y → SameFilters (at_layout l i) (at_layout l j) (ctb_at (chroma_plane l) x y)
        → cross_sample (at_layout l i) component x y ≡ cross_sample (at_layout l j) component x y
    unfolding cross_sample cross_with slice_param bank_number
    same_cross reads old x y s filters =
        let index = filters.ctb_params (6 + component) (omega arith) in
        let t = luma-inside l (sub_width l.picture) (sub_height l.picture) (2 * sub_height l.picture) region x y s in
        same-corrected (luma_reads_lem l region i.luma j.luma reads _ _ t) (here 3 _ _) _
        (cross_taps _ _ _) (cross_taps_lem _ _ _ _) (old x y s) (λ n. cc index)
