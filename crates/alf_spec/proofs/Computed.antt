-- The names under which the examples compute: to unfold one of them is to unfold each definition that its line names. Assumes nothing.
use mathlib.Core.List.{List}
use Prim.Native.Nat.{ℕ}
use Rattle.alf_spec.specs.Lists.{all_below, every_from, elem, sum_below, sum_below_ℤ, tabulate, painted}
use Rattle.alf_spec.specs.Arithmetic.{clip3, distance, rounded, clip_sample, clipped_change, tap, tap_sum, filtered}
use Rattle.alf_spec.specs.Input.{Input, Operation}
use Rattle.alf_spec.specs.Geometry.{ctb_size, sub_width, sub_height, plane_of, line_rule, bottom_distance}
use Rattle.alf_spec.specs.Boundary.{slice_of, subpic_of, tile_column_of, tile_row_of, tile_disables, slice_disables, subpic_disables}
use Rattle.alf_spec.specs.Boundary.{step_cause, column_side, row_side, corner_disabled, find, line_clip, virtual_clip, side_clip, clip}
use Rattle.alf_spec.specs.Boundary.{clip_position}
use Rattle.alf_spec.specs.Padding.{column_clip, row_clip, padded_row, past_corner, padded_column, read}
use Rattle.alf_spec.specs.Parameters.{ctb_param, slice_param, bank_number, fixed_coeff}
use Rattle.alf_spec.specs.Classes.{class_window, filt_h, filt_v, filt_d0, filt_d1, window_rows, window_sum, window_sums, larger, diagonal}
use Rattle.alf_spec.specs.Classes.{main_gradient, other_gradient, strength, activity, transpose_idx, filt_idx, class_of_sums, class_of}
use Rattle.alf_spec.specs.Classes.{block_class}
use Rattle.alf_spec.specs.Luma.{luma_f, luma_c, tap_order, luma_rows, luma_plus, luma_minus, luma_with, luma_sample}
use Rattle.alf_spec.specs.Chroma.{chroma_rows, chroma_plus, chroma_minus, chroma_with, chroma_sample}
use Rattle.alf_spec.specs.CrossComponent.{cross_rows, cross_taps, cross_sum, corrected, cross_with, cross_sample}
use Rattle.alf_spec.specs.Process.{class_at, class_map, luma_on, is_filtered, at_index, filtered_plane, result_of}
use Rattle.alf_spec.specs.Faults.{picture_size_valid, ctb_size_valid, bit_depth_valid, chroma_format_valid, component_valid}
use Rattle.alf_spec.specs.Faults.{layout_lengths_valid, filter_lengths_valid, fixed_lengths_valid, lengths_valid, apart_at, virtual_list_valid}
use Rattle.alf_spec.specs.Faults.{virtual_boundaries_valid, follows_at, tile_list_valid, tiles_valid, corner_at, corners_in_row, corners_valid}
use Rattle.alf_spec.specs.Faults.{slices_valid, subpictures_valid, slice_params_valid, ctb_ranges_valid, ctb_chroma_zero, ctb_params_valid_at}
use Rattle.alf_spec.specs.Faults.{parameters_valid, coeff_valid, clip_valid, is_clip, bank_number_valid, bank_valid, fixed_valid}
use Rattle.alf_spec.specs.Faults.{samples_valid, addresses_valid, region_length_valid, region_valid, unless, layout_fault, tables_fault}
use Rattle.alf_spec.specs.Faults.{cross_coeff_valid, cross_filter_valid, cross_filters_valid, fault, isolation_fault}
use Rattle.alf_spec.specs.Faults.{position_valid, causes_fault}

-- what an operation gives, and each of its samples, worked out
unfoldable pub computed_result : Operation → Input → List ℕ
unfolding all_below every_from elem sum_below sum_below_ℤ tabulate painted clip3 distance rounded clip_sample clipped_change tap tap_sum filtered
    ctb_size sub_width sub_height plane_of line_rule bottom_distance slice_of subpic_of tile_column_of tile_row_of tile_disables slice_disables
    subpic_disables step_cause column_side row_side corner_disabled find line_clip virtual_clip side_clip clip clip_position column_clip row_clip
    padded_row past_corner padded_column read ctb_param slice_param bank_number fixed_coeff class_window filt_h filt_v filt_d0 filt_d1 window_rows
    window_sum window_sums larger diagonal main_gradient other_gradient strength activity transpose_idx filt_idx class_of_sums class_of block_class
    luma_f luma_c tap_order luma_rows luma_plus luma_minus luma_with luma_sample chroma_rows chroma_plus chroma_minus chroma_with chroma_sample cross_rows
    cross_taps cross_sum corrected cross_with cross_sample class_at class_map luma_on is_filtered at_index filtered_plane result_of
computed_result = result_of

-- the lowest fault of an input, of a region or of a position, and each test behind it, worked out
unfoldable pub computed_fault : Operation → Input → ℕ
unfolding all_below every_from elem ctb_size sub_width sub_height plane_of slice_of ctb_param slice_param picture_size_valid ctb_size_valid bit_depth_valid
    chroma_format_valid component_valid layout_lengths_valid filter_lengths_valid fixed_lengths_valid lengths_valid apart_at virtual_list_valid
    virtual_boundaries_valid follows_at tile_list_valid tiles_valid corner_at corners_in_row corners_valid slices_valid subpictures_valid
    slice_params_valid ctb_ranges_valid ctb_chroma_zero ctb_params_valid_at parameters_valid coeff_valid clip_valid is_clip bank_number_valid bank_valid
    fixed_valid samples_valid addresses_valid region_length_valid region_valid cross_coeff_valid cross_filter_valid cross_filters_valid unless
    layout_fault tables_fault fault isolation_fault position_valid causes_fault
computed_fault = fault
