-- What acceptance says of a layout and of an input. Assumes nothing.
use mathlib.Core.Path.{◌≡◌, refl}
use mathlib.Core.Bool.{Bool, true, false, not, ◌&&◌}
use mathlib.Core.List.{List}
use Prim.Native.Nat.{ℕ, suc, ◌^◌, ◌≤◌, ◌<◌}
use native.Mathlib.Nat.{suc-ne-zero}
use lib.Dec.{eqb, leb, ltb}
use lib.ListN.{length, get_or}
use lib.Pow.{pow_pos}
use borrow.Author.Tests.{ltb-true, leb-true, eqb-true, lt-ltb}
use Rattle.alf_spec.specs.declared.Picture.{Picture}
use Rattle.alf_spec.specs.Lists.{within, implies}
use Rattle.alf_spec.specs.Input.{Layout, Operation, given, Input}
use Rattle.alf_spec.specs.Geometry.{ctb_size, luma_plane, chroma_plane, block_plane, plane_length, ctb_columns, ctb_rows, total_ctbs}
use Rattle.alf_spec.specs.Process.{output_plane}
use Rattle.alf_spec.specs.Faults.{size_valid, picture_size_valid, ctb_size_valid, bit_depth_valid, chroma_format_valid, component_valid}
use Rattle.alf_spec.specs.Faults.{layout_lengths_valid, filter_lengths_valid, fixed_lengths_valid, lengths_valid, region_length_valid}
use Rattle.alf_spec.specs.Faults.{virtual_list_valid, virtual_boundaries_valid, tiles_valid, slices_valid, subpictures_valid, region_valid}
use Rattle.alf_spec.specs.Faults.{parameters_valid, bank_valid, fixed_valid, samples_valid, position_valid, unless, layout_fault}
use Rattle.alf_spec.specs.Faults.{tables_fault, fault, isolation_fault, causes_fault}
use Rattle.alf_spec.proofs.Tests.{both, implied, every_entry}

-- of a chain of tests that gives no number, the first passes, and what follows gives none
pub passed : (test : Bool) (n rest : ℕ) → unless test (suc n) rest ≡ 0 → (test ≡ true) × (rest ≡ 0)
unfolding unless
passed true n rest q = (refl, q)
passed false n rest q = absurd (suc-ne-zero n q)

-- every operation's tests of the layout pass, the isolation test's too
pub record AcceptedLayout (l : Layout) : Type 0 where
  pub sizes : picture_size_valid l.picture ≡ true
  pub ctb_size : ctb_size_valid l.picture ≡ true
  pub bit_depth : bit_depth_valid l.picture ≡ true
  pub lengths : layout_lengths_valid l ≡ true
  pub virtual_boundaries : virtual_boundaries_valid l ≡ true
  pub tiles : tiles_valid l ≡ true
  pub slices : slices_valid l ≡ true
  pub subpictures : subpictures_valid l ≡ true

-- the test of the picture's sizes is one of each size
pub sizes_valid : (p : Picture) → picture_size_valid p ≡ true → (size_valid p.width ≡ true) × (size_valid p.height ≡ true)
unfolding picture_size_valid
sizes_valid p e = both (size_valid p.width) (size_valid p.height) e

-- the test of the virtual boundaries is one of each list
pub lists_valid : (l : Layout) → virtual_boundaries_valid l ≡ true
    → (virtual_list_valid l.picture.width (ctb_size l.picture) l.virtual_columns ≡ true)
    × (virtual_list_valid l.picture.height (ctb_size l.picture) l.virtual_rows ≡ true)
unfolding virtual_boundaries_valid
lists_valid l e = both (virtual_list_valid l.picture.width (ctb_size l.picture) l.virtual_columns) _ e

-- the lengths that cause 5 asks of the layout's tables
pub record TableLengths (l : Layout) : Type 0 where
  pub tile_columns : length l.tile_columns ≡ ctb_columns l
  pub tile_rows : length l.tile_rows ≡ ctb_rows l
  pub slice_map : length l.slice_map ≡ total_ctbs l
  pub subpic_map : length l.subpic_map ≡ total_ctbs l
  pub subpic_across : length l.subpic_across ≡ 64

pub table_lengths : (l : Layout) → layout_lengths_valid l ≡ true → TableLengths l
unfolding layout_lengths_valid
table_lengths l e =
    let after_count = (both (within 1 256 l.picture.slice_count) _ e).1 in
    let columns = both (eqb (length l.tile_columns) (ctb_columns l)) _ after_count in
    let rows = both (eqb (length l.tile_rows) (ctb_rows l)) _ columns.1 in
    let slices = both (eqb (length l.slice_map) (total_ctbs l)) _ rows.1 in
    let subpics = both (eqb (length l.subpic_map) (total_ctbs l)) _ slices.1 in
    record {
      tile_columns = eqb-true _ _ columns.0;
      tile_rows = eqb-true _ _ rows.0;
      slice_map = eqb-true _ _ slices.0;
      subpic_map = eqb-true _ _ subpics.0;
      subpic_across = eqb-true (length l.subpic_across) 64 subpics.1;
    }

-- where layout and operation have no fault, the layout is accepted, the operation's own tests of 4 and 5 pass, and what follows gives no
-- number
pub chain : (l : Layout) (component lengths : Bool) (rest : ℕ) → layout_fault l component lengths rest ≡ 0
    → AcceptedLayout l × (component ≡ true) × (lengths ≡ true) × (rest ≡ 0)
unfolding layout_fault
chain l component lengths rest q =
    let p1 = passed (picture_size_valid l.picture) 0 _ q in
    let p2 = passed (ctb_size_valid l.picture) 1 _ p1.1 in
    let p3 = passed (bit_depth_valid l.picture) 2 _ p2.1 in
    let p4 = passed (chroma_format_valid l.picture && component) 3 _ p3.1 in
    let p5 = passed (layout_lengths_valid l && lengths) 4 _ p4.1 in
    let p6 = passed (virtual_boundaries_valid l) 5 _ p5.1 in
    let p7 = passed (tiles_valid l) 6 _ p6.1 in
    let p8 = passed (slices_valid l) 7 _ p7.1 in
    let p9 = passed (subpictures_valid l) 8 _ p8.1 in
    let four = both (chroma_format_valid l.picture) component p4.0 in
    let five = both (layout_lengths_valid l) lengths p5.0 in (
      record {
        sizes = p1.0;
        ctb_size = p2.0;
        bit_depth = p3.0;
        lengths = five.0;
        virtual_boundaries = p6.0;
        tiles = p7.0;
        slices = p8.0;
        subpictures = p9.0;
      },
      four.1,
      five.1,
      p9.1,
    )

-- an input that an operation accepts
pub accepted : (op : Operation) (i : Input) → fault op i ≡ 0
    → AcceptedLayout i.layout × (component_valid op i.layout.picture ≡ true) × (lengths_valid op i ≡ true) × (tables_fault op i ≡ 0)
unfolding fault
accepted op i q = chain i.layout (component_valid op i.layout.picture) (lengths_valid op i) (tables_fault op i) q

-- a layout that the isolation test accepts
pub accepted-layout : (l : Layout) (region : List ℕ) → isolation_fault l region ≡ 0 → AcceptedLayout l
unfolding isolation_fault
accepted-layout l region q = (chain l true (region_length_valid l region) (unless (region_valid region) 14 0) q).0

-- a region that the isolation test accepts
pub accepted_region : (l : Layout) (region : List ℕ) → isolation_fault l region ≡ 0 → length region ≡ plane_length (block_plane l)
unfolding isolation_fault region_length_valid
accepted_region l region q = eqb-true (length region) _ (chain l true (region_length_valid l region) (unless (region_valid region) 14 0) q).2

-- a layout of which the causes at a luma position are named, and the position
pub accepted_position : (l : Layout) (x y : ℕ) → causes_fault l true x y ≡ 0 → AcceptedLayout l × (x < l.picture.width)
    × (y < l.picture.height)
unfolding causes_fault position_valid
accepted_position l x y q =
    let all = chain l true true (unless (position_valid l.picture x y) 15 0) q in
    let inside = both (ltb x l.picture.width) _ (passed (position_valid l.picture x y) 14 0 all.3).0 in
    (all.0, ltb-true x l.picture.width inside.0, ltb-true y l.picture.height inside.1)

-- a component is 0 or 1: cause 4 of the chroma and of the cross-component filter
pub component_of : (p : Picture) (component : ℕ) → (not (eqb p.chroma_format 0) && leb component 1) ≡ true → component ≤ 1
component_of p component q = leb-true component 1 (both (not (eqb p.chroma_format 0)) (leb component 1) q).1

-- a plane that passes the test of 12; past its end a read gives 0
sample_below : (p : Picture) (plane : List ℕ) → samples_valid p plane ≡ true → (k : ℕ) → get_or plane k 0 < 2 ^ p.bit_depth
unfolding samples_valid
sample_below p plane e k =
    ltb-true _ _ (every_entry (λ n. ltb n (2 ^ p.bit_depth)) 0 (lt-ltb 0 (2 ^ p.bit_depth) (pow_pos p.bit_depth)) 0 plane e k)

-- the planes that an operation is given, and its output, have the picture's size, and no sample is 2^B or more
module _ (op : Operation) (i : Input) (ok : fault op i ≡ 0) where
  abbrev luma_length : Bool
  luma_length = eqb (length i.luma) (plane_length (luma_plane i.layout))

  abbrev chroma_length : Bool
  chroma_length = eqb (length i.chroma) (plane_length (chroma_plane i.layout))

  abbrev output_length : Bool
  output_length = eqb i.output_length (plane_length (output_plane op i.layout))

  lengths : (implies (given op).luma luma_length ≡ true) × (implies (given op).chroma chroma_length ≡ true) × (output_length ≡ true)
  unfolding lengths_valid
  lengths =
      let after_filters = (both (implies (given op).filters (filter_lengths_valid i)) _ (accepted op i ok).2).1 in
      let after_fixed = (both (implies (given op).fixed (fixed_lengths_valid i)) _ after_filters).1 in
      let luma = both (implies (given op).luma luma_length) _ after_fixed in
      let chroma = both (implies (given op).chroma chroma_length) _ luma.1 in
      (luma.0, chroma.0, chroma.1)

  pub luma-length : (given op).luma ≡ true → length i.luma ≡ plane_length (luma_plane i.layout)
  luma-length e = eqb-true (length i.luma) _ (implied (given op).luma luma_length lengths.0 e)

  pub chroma-length : (given op).chroma ≡ true → length i.chroma ≡ plane_length (chroma_plane i.layout)
  chroma-length e = eqb-true (length i.chroma) _ (implied (given op).chroma chroma_length lengths.1 e)

  pub output_length_lem : i.output_length ≡ plane_length (output_plane op i.layout)
  output_length_lem = eqb-true i.output_length _ lengths.2

  abbrev luma_samples : Bool
  luma_samples = samples_valid i.layout.picture i.luma

  abbrev chroma_samples : Bool
  chroma_samples = samples_valid i.layout.picture i.chroma

  samples : (implies (given op).luma luma_samples ≡ true) × (implies (given op).chroma chroma_samples ≡ true)
  unfolding tables_fault
  samples =
      let after_parameters = (passed (implies (given op).filters (parameters_valid i)) 9 _ (accepted op i ok).3).1 in
      let after_bank = (passed (implies (given op).filters (bank_valid i)
      && implies (given op).fixed (fixed_valid i)) 10 _ after_parameters).1 in
      both (implies (given op).luma luma_samples) (implies (given op).chroma chroma_samples) (passed _ 11 _ after_bank).0

  pub luma-samples : (given op).luma ≡ true → (k : ℕ) → get_or i.luma k 0 < 2 ^ i.layout.picture.bit_depth
  luma-samples e = sample_below i.layout.picture i.luma (implied (given op).luma luma_samples samples.0 e)

  pub chroma-samples : (given op).chroma ≡ true → (k : ℕ) → get_or i.chroma k 0 < 2 ^ i.layout.picture.bit_depth
  chroma-samples e = sample_below i.layout.picture i.chroma (implied (given op).chroma chroma_samples samples.1 e)
