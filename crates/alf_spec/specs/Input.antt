-- What the operations are given (01: What is lent). Assumes nothing.
use Rattle.std.specs.Prelude.{Bool, true, false, List, [], ℕ, ℤ}
use Rattle.alf_spec.specs.declared.Picture.{Picture}

-- the picture and its boundary tables: what every operation is given (01: frame; virtual boundaries, tiles, slices, subpictures)
pub record Layout : Type 0 where
  pub picture : Picture
  pub virtual_columns : List ℕ
  pub virtual_rows : List ℕ
  -- the tile column of each CTB column, the tile row of each CTB row
  pub tile_columns : List ℕ
  pub tile_rows : List ℕ
  -- by CTB address
  pub slice_map : List ℕ
  pub subpic_map : List ℕ
  -- by subpicture: 1 filters across its sides
  pub subpic_across : List ℕ

-- the picture of these numbers and switches, in the order in which they are passed
abbrev pub picture_of : ℕ → ℕ → ℕ → ℕ → ℕ → ℕ → Bool → Bool → Picture
picture_of width height ctb_log2 bit_depth chroma_format slice_count across_tiles across_slices = record {
  width = width;
  height = height;
  ctb_log2 = ctb_log2;
  bit_depth = bit_depth;
  chroma_format = chroma_format;
  slice_count = slice_count;
  across_tiles = across_tiles;
  across_slices = across_slices;
}

-- the layout of these parts, in the order in which every operation is given them
abbrev pub layout_of : Picture → List ℕ → List ℕ → List ℕ → List ℕ → List ℕ → List ℕ → List ℕ → Layout
layout_of picture virtual_columns virtual_rows tile_columns tile_rows slice_map subpic_map subpic_across = record {
  picture = picture;
  virtual_columns = virtual_columns;
  virtual_rows = virtual_rows;
  tile_columns = tile_columns;
  tile_rows = tile_rows;
  slice_map = slice_map;
  subpic_map = subpic_map;
  subpic_across = subpic_across;
}

-- the operations that have a plane or a class map for their output; a component is 0 (Cb) or 1 (Cr)
pub data Operation : Type 0 where
  classes : Operation
  luma : Operation
  chroma : ℕ → Operation
  cross_component : ℕ → Operation

-- what an operation is given beside the layout: the luma plane; its component's chroma plane; the filters' tables, which are slice
-- parameters, bank, CTB parameters and list; the fixed tables
pub record Given : Type 0 where
  pub luma : Bool
  pub chroma : Bool
  pub filters : Bool
  pub fixed : Bool

-- 01: classes are lent the luma plane; the three filters slice rows, bank, CTB choices, list and their input planes; the luma filter alone
-- also the fixed tables
abbrev pub given : Operation → Given
given classes = record { luma = true; chroma = false; filters = false; fixed = false }
given luma = record { luma = true; chroma = false; filters = true; fixed = true }
given (chroma component) = record { luma = false; chroma = true; filters = true; fixed = false }
given (cross_component component) = record { luma = true; chroma = true; filters = true; fixed = false }

-- all that an operation may be given; what it is not given plays no part
pub record Input : Type 0 where
  pub layout : Layout
  pub luma : List ℕ
  -- the component's plane; for the cross-component filter it is filtered already, and luma is not
  pub chroma : List ℕ
  -- eleven numbers a slice (01: slice row)
  pub slice_params : List ℕ
  -- eight APSs of 752 numbers (01: bank)
  pub bank : List ℤ
  -- eight numbers a CTB (01: CTB choices)
  pub ctb_params : List ℕ
  pub ctb_list : List ℕ
  -- AlfFixFiltCoeff, 64 filters of 12, and AlfClassToFiltMap, 16 times 25
  pub fixed_filters : List ℤ
  pub fixed_map : List ℕ
  -- how many entries the output has
  pub output_length : ℕ

-- ---- the input of each operation, in the order in which it is given; what it is not given is empty

-- an input of all its parts
abbrev pub input_of : Layout → List ℕ → List ℕ → List ℕ → List ℤ → List ℕ → List ℕ → List ℤ → List ℕ → ℕ → Input
input_of l luma_samples chroma_samples slice_params bank ctb_params ctb_list fixed_filters fixed_map output_length = record {
  layout = l;
  luma = luma_samples;
  chroma = chroma_samples;
  slice_params = slice_params;
  bank = bank;
  ctb_params = ctb_params;
  ctb_list = ctb_list;
  fixed_filters = fixed_filters;
  fixed_map = fixed_map;
  output_length = output_length;
}

-- the same input, for an output of this length
abbrev pub with_output : ℕ → Input → Input
with_output n i = input_of i.layout i.luma i.chroma i.slice_params i.bank i.ctb_params i.ctb_list i.fixed_filters i.fixed_map n

abbrev pub classes_input : Layout → List ℕ → ℕ → Input
classes_input l luma_samples output_length = input_of l luma_samples [] [] [] [] [] [] [] output_length

abbrev pub luma_input : Layout → List ℕ → List ℤ → List ℕ → List ℕ → List ℤ → List ℕ → List ℕ → ℕ → Input
luma_input l slice_params bank ctb_params ctb_list fixed_filters fixed_map luma_samples output_length =
    input_of l luma_samples [] slice_params bank ctb_params ctb_list fixed_filters fixed_map output_length

abbrev pub chroma_input : Layout → List ℕ → List ℤ → List ℕ → List ℕ → List ℕ → ℕ → Input
chroma_input l slice_params bank ctb_params ctb_list chroma_samples output_length =
    input_of l [] chroma_samples slice_params bank ctb_params ctb_list [] [] output_length

abbrev pub cross_input : Layout → List ℕ → List ℤ → List ℕ → List ℕ → List ℕ → List ℕ → ℕ → Input
cross_input l slice_params bank ctb_params ctb_list luma_samples chroma_samples output_length =
    input_of l luma_samples chroma_samples slice_params bank ctb_params ctb_list [] [] output_length
