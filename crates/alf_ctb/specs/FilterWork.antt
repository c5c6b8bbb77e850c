-- What the functions that filter a piece and a CTB are given, and what they leave. Assumes nothing.
use Rattle.std.specs.Prelude.{◌≡◌, Bool, true, List, [], Option, ℕ, ◌+◌, ◌*◌, ◌/◌, ◌≤◌, ◌<◌, ℤ, pos, length, get_or}
use Rattle.alf_spec.specs.declared.ClipCause.{ClipCause}
use Rattle.alf_spec.specs.declared.Ctb.{Ctb}
use Rattle.alf_spec.specs.declared.Grid.{Grid}
use Rattle.alf_spec.specs.declared.Picture.{Picture}
use Rattle.alf_spec.specs.declared.Sides.{Sides}
use Rattle.alf_spec.specs.Lists.{painted}
use Rattle.alf_spec.specs.Input.{layout_of, given, Input, input_of}
use Rattle.alf_spec.specs.Geometry.{Side, Axis, sub_width, sub_height}
use Rattle.alf_spec.specs.Boundary.{column_side, row_side}
use Rattle.alf_spec.specs.Process.{at_index, output_plane}
use Rattle.alf_math.specs.Grids.{AcceptedPicture}
use Rattle.alf_math.specs.Integers.{CoeffRange, ClipRange}
use Rattle.alf_pieces.specs.declared.pieces.Piece.{Piece}
use Rattle.alf_pieces.specs.declared.walks.CtbWalk.{CtbWalk}
use Rattle.alf_pieces.specs.Pieces.{PieceOf, CtbOf}
use Rattle.alf_pieces.specs.Walks.{Axes, PiecesAlong, in_piece, in_walk, passed}
use Rattle.alf_pieces.specs.Copies.{area}
use Rattle.alf_taps.specs.Spread.{TapNumbers}
use Rattle.alf_params.specs.Filters.{FilterNumbers}
use Rattle.alf_luma.specs.SpreadFilters.{TapOrders}
use Rattle.alf_spec.specs.declared.Filter.{Filter}
use Rattle.alf_spec.specs.declared.Filter.TheVariants.{Luma, Chroma, CrossComponent}
use Rattle.alf_spec.specs.Filters.{operation_of}
use Rattle.alf_ctb.specs.Filters.{column_ratio, row_ratio, walk_plane, sample_of, OwnFilter}

-- an input of a picture and its planes alone: no table, no list, no output
abbrev pub planes_input : Picture → List ℕ → List ℕ → Input
planes_input p luma_samples chroma_samples =
    input_of (layout_of p [] [] [] [] [] [] []) luma_samples chroma_samples [] [] [] [] [] [] 0

-- that of this input's picture and planes
abbrev pub planes_of : Input → Input
planes_of i = planes_input i.layout.picture i.luma i.chroma

-- an accepted picture, its planes as far as the filter is given them, and the tap order
pub record PlanesGiven (f : Filter) (i : Input) (g : Grid) (orders : List ℕ) : Type 0 where
  pub picture : AcceptedPicture i.layout.picture g
  pub luma_length : (given (operation_of f)).luma ≡ true → length i.luma ≡ i.layout.picture.width * i.layout.picture.height
  pub chroma_length : (given (operation_of f)).chroma ≡ true → length i.chroma
      ≡ (i.layout.picture.width / sub_width i.layout.picture) * (i.layout.picture.height / sub_height i.layout.picture)
  pub luma : (given (operation_of f)).luma ≡ true → (k : ℕ) → get_or i.luma k 0 < 4096
  pub chroma : (given (operation_of f)).chroma ≡ true → (k : ℕ) → get_or i.chroma k 0 < 4096
  pub order : TapOrders orders

-- what it works in: room for the copy of a piece and for its differences, the spread numbers of a filter, and an output of the plane's size
pub record FilterRooms (f : Filter) (p : Picture) (copy differences : ℕ) (taps : List ℤ) (output : ℕ) : Type 0 where
  pub copy_room : area ≤ copy
  pub difference_room : 4 * area ≤ differences
  pub spread : TapNumbers taps
  pub output_length : output ≡ (p.width / column_ratio f p) * (p.height / row_ratio f p)

-- a chroma filter's numbers in their ranges: 6 coefficients, 6 clips
pub record ChromaNumbers (filters : List ℤ) : Type 0 where
  pub count : 12 ≤ length filters
  pub coefficients : (j : ℕ) → j < 6 → CoeffRange (get_or filters j (pos 0))
  pub clips : (j : ℕ) → j < 6 → ClipRange (get_or filters (6 + j) (pos 0))

-- a cross-component filter's: 7 coefficients
pub record CrossNumbers (filters : List ℤ) : Type 0 where
  pub count : 7 ≤ length filters
  pub coefficients : (j : ℕ) → CoeffRange (get_or filters j (pos 0))

-- the numbers of a filter are in their ranges
abbrev pub Numbers : Filter → List ℤ → Type 0
Numbers Luma filters = FilterNumbers filters
Numbers (Chroma component) filters = ChromaNumbers filters
Numbers (CrossComponent component) filters = CrossNumbers filters

-- a part of the filter's plane is filtered: `new` is `old` with its samples written anew, for every input with this one's picture and
-- planes in which a CTB has these sides and this filter's numbers, and its pieces are as the two conditions say
abbrev pub Filtered : Filter → Input → Sides → List ℤ → (Axis → (Side → ClipCause) → ℕ → Type 0)
    → (Axis → (Side → ClipCause) → ℕ → Type 0) → (ℕ → Bool) → List ℕ → List ℕ → Type 0
Filtered f own sides filters Columns Rows part old new =
    (i : Input) (c : Ctb) → CtbOf i.layout own.layout.picture c sides → i.luma ≡ own.luma → i.chroma ≡ own.chroma → OwnFilter f i c filters
    → Columns (walk_plane f i.layout).columns (column_side i.layout c) c.column
    → Rows (walk_plane f i.layout).rows (row_side i.layout c) c.row
    → new ≡ painted old part (at_index (output_plane (operation_of f) i.layout) (sample_of f i))

-- a piece is filtered
abbrev pub PieceFiltered : Filter → Input → Sides → Piece → Piece → List ℤ → List ℕ → List ℕ → Type 0
PieceFiltered f own sides columns rows filters =
    let p = own.layout.picture in
    Filtered f own sides filters (λ a side q. PieceOf a side q columns) (λ a side q. PieceOf a side q rows)
    (in_piece (p.width / column_ratio f p) (column_ratio f p) (row_ratio f p) columns rows)

-- a part of the CTB through which these axes go is filtered
abbrev pub AxesFiltered : Filter → Input → Sides → Axes → List ℤ → (ℕ → Bool) → List ℕ → List ℕ → Type 0
AxesFiltered f own sides axes filters =
    Filtered f own sides filters (PiecesAlong axes.columns axes.virtual_columns) (PiecesAlong axes.rows axes.virtual_rows)

-- in the plane that a filter writes, the samples of the CTB through which these axes go, and those that a walk over its pieces has passed
abbrev pub in_filtered : Filter → Picture → Axes → ℕ → Bool
in_filtered f p = in_walk (p.width / column_ratio f p) (column_ratio f p) (row_ratio f p)

abbrev pub passed_by : Filter → Picture → Axes → Option CtbWalk → ℕ → Bool
passed_by f p = passed (p.width / column_ratio f p) (column_ratio f p) (row_ratio f p)
