-- When an input is rejected (01: When a frame is turned away): a test for each cause, true where the cause does not apply, and the lowest
-- number of a cause that does. Assumes nothing.
use Rattle.std.specs.Prelude.{Bool, true, false, not, ◌&&◌, ◌||◌, cond, List, [], ◌∷◌, ℕ, ◌+◌, ◌-◌, ◌*◌, ◌%◌, ◌^◌, ℤ, pos, negsuc, nat_abs, eqb, leb, ltb, length, get_or}
use Rattle.std.specs.Int.Signed.{le_z}
use Rattle.alf_spec.specs.declared.Picture.{Picture}
use Rattle.alf_spec.specs.declared.Ctb.{Ctb}
use Rattle.alf_spec.specs.Lists.{within, implies, all_below, every_from, every, elem}
use Rattle.alf_spec.specs.Input.{Layout, Operation, classes, luma, chroma, cross_component, given, Input}
use Rattle.alf_spec.specs.Geometry.{ctb_size, luma_plane, chroma_plane, block_plane, plane_length, ctb_columns, ctb_rows, total_ctbs, ctb_of}
use Rattle.alf_spec.specs.Parameters.{luma_flag, chroma_flag, luma_set, chroma_alternative, cross_index, luma_aps_count, cross_number}
use Rattle.alf_spec.specs.Process.{output_plane}

-- ---- 1 to 4

-- width and height are multiples of 8 from 8 to 4,096
abbrev pub size_valid : ℕ → Bool
size_valid n = eqb (n % 8) 0 && within 8 4096 n

-- 1
unfoldable pub picture_size_valid : Picture → Bool
picture_size_valid p = size_valid p.width && size_valid p.height

-- 2: CTB exponent 5, 6 or 7
unfoldable pub ctb_size_valid : Picture → Bool
ctb_size_valid p = within 5 7 p.ctb_log2

-- bit depth 8 to 12
abbrev pub depth_valid : ℕ → Bool
depth_valid depth = within 8 12 depth

-- 3
unfoldable pub bit_depth_valid : Picture → Bool
bit_depth_valid p = depth_valid p.bit_depth

-- 4: chroma mark 0 to 3
unfoldable pub chroma_format_valid : Picture → Bool
chroma_format_valid p = leb p.chroma_format 3

-- 4: no chroma work under mark 0, and component 0 (Cb) or 1 (Cr)
unfoldable pub component_valid : Operation → Picture → Bool
component_valid classes p = true
component_valid luma p = true
component_valid (chroma component) p = not (eqb p.chroma_format 0) && leb component 1
component_valid (cross_component component) p = not (eqb p.chroma_format 0) && leb component 1

-- ---- 5: N is 1 to 256, and what is given is of the length that the sizes and N call for

-- a tile number per CTB column and row, a slice and a subpicture number per CTB, 64 subpicture switches
unfoldable pub layout_lengths_valid : Layout → Bool
layout_lengths_valid l =
    within 1 256 l.picture.slice_count
    && (eqb (length l.tile_columns) (ctb_columns l) && (eqb (length l.tile_rows) (ctb_rows l)
    && (eqb (length l.slice_map) (total_ctbs l) && (eqb (length l.subpic_map) (total_ctbs l)
    && eqb (length l.subpic_across) 64))))

-- eleven numbers a slice, eight APSs of 752, eight numbers a CTB
unfoldable pub filter_lengths_valid : Input → Bool
filter_lengths_valid i =
    eqb (length i.slice_params) (11 * i.layout.picture.slice_count)
    && (eqb (length i.bank) (8 * 752) && eqb (length i.ctb_params) (8 * total_ctbs i.layout))

-- 64 fixed filters of 12 coefficients, and a map of 16 times 25
unfoldable pub fixed_lengths_valid : Input → Bool
fixed_lengths_valid i = eqb (length i.fixed_filters) (64 * 12) && eqb (length i.fixed_map) (16 * 25)

-- of what the operation is given beside the layout, and of its output
unfoldable pub lengths_valid : Operation → Input → Bool
lengths_valid op i =
    implies (given op).filters (filter_lengths_valid i)
    && (implies (given op).fixed (fixed_lengths_valid i)
    && (implies (given op).luma (eqb (length i.luma) (plane_length (luma_plane i.layout)))
    && (implies (given op).chroma (eqb (length i.chroma) (plane_length (chroma_plane i.layout)))
    && eqb i.output_length (plane_length (output_plane op i.layout)))))

-- ---- 6: virtual boundaries

-- a multiple of 8, from 8 to the size less 8
abbrev pub virtual_position_valid : ℕ → ℕ → Bool
virtual_position_valid size v = eqb (v % 8) 0 && (leb 8 v && leb (v + 8) size)

-- rising, at least S apart
unfoldable pub apart_at : ℕ → List ℕ → ℕ → Bool
apart_at s list k = leb (get_or list k 0 + s) (get_or list (k + 1) 0)

-- up to 3
unfoldable pub virtual_list_valid : ℕ → ℕ → List ℕ → Bool
virtual_list_valid size s list = leb (length list) 3
    && (every (virtual_position_valid size) list && all_below (length list - 1) (apart_at s list))

-- 6: columns and rows
unfoldable pub virtual_boundaries_valid : Layout → Bool
virtual_boundaries_valid l =
    virtual_list_valid l.picture.width (ctb_size l.picture) l.virtual_columns
    && virtual_list_valid l.picture.height (ctb_size l.picture) l.virtual_rows

-- ---- 7: tiles

-- each entry equals the one before or is one more
unfoldable pub follows_at : List ℕ → ℕ → Bool
follows_at list k = eqb (get_or list (k + 1) 0) (get_or list k 0) || eqb (get_or list (k + 1) 0) (get_or list k 0 + 1)

-- each list begins at 0
unfoldable pub tile_list_valid : List ℕ → Bool
tile_list_valid list = eqb (get_or list 0 0) 0 && all_below (length list - 1) (follows_at list)

-- 7: columns and rows
unfoldable pub tiles_valid : Layout → Bool
tiles_valid l = tile_list_valid l.tile_columns && tile_list_valid l.tile_rows

-- ---- 8, 9: slices and subpictures. Four CTBs round a corner, upper left a, upper right b, lower left c, lower right d

-- the first three are alike, and the last is different
abbrev pub odd_one_out : ℕ → ℕ → ℕ → ℕ → Bool
odd_one_out a b c d = eqb a b && (eqb a c && not (eqb a d))

-- neither a = c = d with b different, nor a = b = d with c different
abbrev pub slice_corner : ℕ → ℕ → ℕ → ℕ → Bool
slice_corner a b c d = not (odd_one_out a c d b) && not (odd_one_out a b d c)

-- never exactly three of four have one number
abbrev pub subpic_corner : ℕ → ℕ → ℕ → ℕ → Bool
subpic_corner a b c d = not (odd_one_out a b c d) && (not (odd_one_out a b d c) && (not (odd_one_out a c d b) && not (odd_one_out b c d a)))

-- the rule at the corner whose upper left CTB is column x of the row that begins at `from`
unfoldable pub corner_at : (ℕ → ℕ → ℕ → ℕ → Bool) → List ℕ → ℕ → ℕ → ℕ → Bool
corner_at rule map columns from x =
    rule (get_or map (from + x) 0) (get_or map (from + x + 1) 0) (get_or map (from + columns + x) 0) (get_or map (from + columns + x + 1) 0)

-- at each corner between two rows of CTBs
unfoldable pub corners_in_row : (ℕ → ℕ → ℕ → ℕ → Bool) → List ℕ → ℕ → ℕ → Bool
corners_in_row rule map columns y = all_below (columns - 1) (corner_at rule map columns (y * columns))

-- at each corner where four CTBs of the grid meet
unfoldable pub corners_valid : (ℕ → ℕ → ℕ → ℕ → Bool) → Layout → List ℕ → Bool
corners_valid rule l map = all_below (ctb_rows l - 1) (corners_in_row rule map (ctb_columns l))

-- 8: a number below N for each CTB, and the slice rule at each corner
unfoldable pub slices_valid : Layout → Bool
slices_valid l = every (λ n. ltb n l.picture.slice_count) l.slice_map && corners_valid slice_corner l l.slice_map

-- 9: a number 0 to 63 for each CTB, switches 0 or 1, and the subpicture rule at each corner
unfoldable pub subpictures_valid : Layout → Bool
subpictures_valid l =
    every (λ n. ltb n 64) l.subpic_map
    && (every (λ n. leb n 1) l.subpic_across && corners_valid subpic_corner l l.subpic_map)

-- ---- 10: slice parameters and CTB parameters

-- the count and each APS id (01: place) are 0 to 7, also where the count leaves an id unused
unfoldable pub slice_params_valid : Input → Bool
slice_params_valid i = every (λ n. leb n 7) i.slice_params

module _ (i : Input) (c : Ctb) where
  -- flags 0 or 1; luma set 0 to 15, then 16 up to 15 + the count of its slice; alternatives 0 to 7; cross-component indices 0 to 4
  unfoldable pub ctb_ranges_valid : Bool
  ctb_ranges_valid =
      leb (luma_flag i c) 1 && (leb (chroma_flag i c 0) 1 && (leb (chroma_flag i c 1) 1
      && (leb (luma_set i c) (15 + luma_aps_count i c)
      && (leb (chroma_alternative i c 0) 7 && (leb (chroma_alternative i c 1) 7
      && (leb (cross_index i c 0) 4 && leb (cross_index i c 1) 4))))))

  -- under chroma mark 0 the two chroma flags and the four numbers after the luma set are 0
  unfoldable pub ctb_chroma_zero : Bool
  ctb_chroma_zero =
      eqb (chroma_flag i c 0) 0 && (eqb (chroma_flag i c 1) 0
      && (eqb (chroma_alternative i c 0) 0 && (eqb (chroma_alternative i c 1) 0
      && (eqb (cross_index i c 0) 0 && eqb (cross_index i c 1) 0))))

-- of the CTB at address k
unfoldable pub ctb_params_valid_at : Input → ℕ → Bool
ctb_params_valid_at i k =
    ctb_ranges_valid i (ctb_of i.layout k)
    && implies (eqb i.layout.picture.chroma_format 0) (ctb_chroma_zero i (ctb_of i.layout k))

-- 10: all slice parameters, and the CTB parameters of every CTB
unfoldable pub parameters_valid : Input → Bool
parameters_valid i = slice_params_valid i && all_below (total_ctbs i.layout) (ctb_params_valid_at i)

-- ---- 11: coefficients, clips, fixed map

-- coefficients, the fixed ones too, −128 to 127
unfoldable pub coeff_valid : ℤ → Bool
coeff_valid z = le_z (negsuc 127) z && le_z z (pos 127)

-- clips 0 to 2^B
unfoldable pub clip_valid : ℕ → ℤ → Bool
clip_valid depth z = le_z (pos 0) z && le_z z (pos (2 ^ depth))

-- whether number n of an APS is a clip: of a luma filter the last 12 of 24, of a chroma alternative the last 6 of 12
unfoldable pub is_clip : ℕ → Bool
is_clip n = cond (ltb n 600) (leb 12 (n % 24)) (ltb n 696 && leb 6 ((n - 600) % 12))

-- number k of the bank is in its range
unfoldable pub bank_number_valid : ℕ → ℕ → ℤ → Bool
bank_number_valid depth k z = cond (is_clip (k % 752)) (clip_valid depth z) (coeff_valid z)

-- the numbers of a bank at a bit depth, also of filters that no CTB uses
abbrev pub bank_numbers_valid : ℕ → List ℤ → Bool
bank_numbers_valid depth bank = every_from 0 (bank_number_valid depth) bank

unfoldable pub bank_valid : Input → Bool
bank_valid i = bank_numbers_valid i.layout.picture.bit_depth i.bank

-- entries of the fixed map 0 to 63
unfoldable pub fixed_valid : Input → Bool
fixed_valid i = every coeff_valid i.fixed_filters && every (λ n. ltb n 64) i.fixed_map

-- ---- 12 to 15

-- 12: no input sample of 2^B or more
unfoldable pub samples_valid : Picture → List ℕ → Bool
samples_valid p plane = every (λ n. ltb n (2 ^ p.bit_depth)) plane

-- 13: list addresses below the CTB count
unfoldable pub addresses_valid : Input → Bool
addresses_valid i = every (λ n. ltb n (total_ctbs i.layout)) i.ctb_list

-- of a region (01: area): a number for each 8 by 8 luma block
unfoldable pub region_length_valid : Layout → List ℕ → Bool
region_length_valid l region = eqb (length region) (plane_length (block_plane l))

-- 14: region numbers 0 or 1
unfoldable pub region_valid : List ℕ → Bool
region_valid region = every (λ n. leb n 1) region

-- 15: the luma position lies in the picture (02, card 1)
unfoldable pub position_valid : Picture → ℕ → ℕ → Bool
position_valid p x y = ltb x p.width && ltb y p.height

-- ---- 21: cross-component coefficients (02, card 6). No operation judges it yet

-- "H.266 can only send 0 or plus or minus 1, 2, 4, 8, 16, 32 or 64"
abbrev pub cross_magnitudes : List ℕ
cross_magnitudes = 0 ∷ 1 ∷ 2 ∷ 4 ∷ 8 ∷ 16 ∷ 32 ∷ 64 ∷ []

unfoldable pub cross_coeff_valid : ℤ → Bool
cross_coeff_valid z = elem (nat_abs z) cross_magnitudes

-- the seven coefficients of a filter
unfoldable pub cross_filter_valid : List ℤ → ℕ → ℕ → ℕ → Bool
cross_filter_valid bank aps component filter =
    all_below 7 (λ j. cross_coeff_valid (get_or bank (752 * aps + cross_number component filter j) (pos 0)))

-- all filters of all APSs, also those that no CTB uses
unfoldable pub cross_filters_valid : List ℤ → Bool
cross_filters_valid bank = all_below 8 (λ aps. all_below 2 (λ component. all_below 4 (cross_filter_valid bank aps component)))

-- "the cross-component filter refuses a bank that holds another"; "luma and chroma work does not judge this"
abbrev pub judges_cross : Operation → Bool
judges_cross classes = false
judges_cross luma = false
judges_cross (chroma component) = false
judges_cross (cross_component component) = true

-- ---- the lowest number that applies; only what the operation is given is judged

-- n unless the test passes
unfoldable pub unless : Bool → ℕ → ℕ → ℕ
unless true n rest = rest
unless false n rest = n

-- 1 to 9, the layout's: every operation is given it. 4 and 5 have a test of the operation's own.
unfoldable pub layout_fault : Layout → Bool → Bool → ℕ → ℕ
layout_fault l component lengths rest =
    unless (picture_size_valid l.picture) 1
    (unless (ctb_size_valid l.picture) 2
    (unless (bit_depth_valid l.picture) 3
    (unless (chroma_format_valid l.picture && component) 4
    (unless (layout_lengths_valid l && lengths) 5
    (unless (virtual_boundaries_valid l) 6
    (unless (tiles_valid l) 7
    (unless (slices_valid l) 8
    (unless (subpictures_valid l) 9 rest))))))))

-- 10 to 13: what this operation is given
unfoldable pub tables_fault : Operation → Input → ℕ
tables_fault op i =
    unless (implies (given op).filters (parameters_valid i)) 10
    (unless (implies (given op).filters (bank_valid i) && implies (given op).fixed (fixed_valid i)) 11
    (unless (implies (given op).luma (samples_valid i.layout.picture i.luma)
    && implies (given op).chroma (samples_valid i.layout.picture i.chroma)) 12
    (unless (implies (given op).filters (addresses_valid i)) 13 0)))

-- 0 where the operation accepts the input
unfoldable pub fault : Operation → Input → ℕ
fault op i = layout_fault i.layout (component_valid op i.layout.picture) (lengths_valid op i) (tables_fault op i)

-- the isolation test's
unfoldable pub isolation_fault : Layout → List ℕ → ℕ
isolation_fault l region = layout_fault l true (region_length_valid l region) (unless (region_valid region) 14 0)

-- that of naming the causes at a luma position: 15 is "judged last". The test is that of the room for them, where they are written to a
-- list.
unfoldable pub causes_fault : Layout → Bool → ℕ → ℕ → ℕ
causes_fault l room x y = layout_fault l true room (unless (position_valid l.picture x y) 15 0)
