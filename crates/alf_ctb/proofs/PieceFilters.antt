-- What each filter's function of a piece is given, and what it leaves, under the one name of the filters. Assumes nothing.
use mathlib.Core.Path.{◌≡◌, refl, sym, ap, subst, ◌∙◌}
use mathlib.Core.List.{List}
use Prim.Native.Nat.{ℕ, ◌/◌}
use native.Mathlib.Nat.{div-one}
use native.Mathlib.Omega.{arith}
use lib.IntN.{ℤ}
use Rattle.alf_spec.specs.declared.Ctb.{Ctb}
use Rattle.alf_spec.specs.declared.Grid.{Grid}
use Rattle.alf_spec.specs.declared.Picture.{Picture}
use Rattle.alf_spec.specs.declared.Sides.{Sides}
use Rattle.alf_spec.specs.Lists.{painted}
use Rattle.alf_spec.specs.Input.{Input}
use Rattle.alf_spec.specs.Geometry.{sub_width, sub_height, ctb_size, plane_of, luma_plane, chroma_plane}
use Rattle.alf_spec.specs.Boundary.{column_side, row_side}
use Rattle.alf_spec.specs.Luma.{luma_sample}
use Rattle.alf_spec.specs.Chroma.{chroma_sample}
use Rattle.alf_spec.specs.CrossComponent.{cross_sample}
use Rattle.alf_spec.specs.Process.{at_index}
use Rattle.alf_spec.proofs.Ratios.{Ratio, whole, half, boundary, chroma_ratios}
use Rattle.alf_pieces.specs.declared.pieces.Piece.{Piece}
use Rattle.alf_lists.specs.Regions.{in_rect}
use Rattle.alf_pieces.specs.Pieces.{scaled, PieceOf, PieceIn, BlockPiece, CtbOf}
use Rattle.alf_pieces.proofs.ScaledPieces.{scaled-piece}
use Rattle.alf_params.specs.Filters.{LumaFilters, ChromaFilter}
use Rattle.alf_luma.specs.Samples.{LumaPieceInput}
use Rattle.alf_chroma.specs.Pieces.{ChromaWork, unlined_plane}
use Rattle.alf_cross.specs.Pieces.{CrossFilter, CrossWork}
use Rattle.alf_spec.specs.declared.Filter.{Filter}
use Rattle.alf_spec.specs.declared.Filter.TheVariants.{Luma, Chroma, CrossComponent}
use Rattle.alf_ctb.specs.FilterWork.{planes_of, PlanesGiven, FilterRooms, Numbers, PieceFiltered}

-- ---- what they are given

-- an input's picture and planes are given without its tables
pub planes_given : {f : Filter} {i : Input} {g : Grid} {orders : List ℕ} → PlanesGiven f i g orders → PlanesGiven f (planes_of i) g orders
planes_given h = record {
  picture = h.picture;
  luma_length = h.luma_length;
  chroma_length = h.chroma_length;
  luma = h.luma;
  chroma = h.chroma;
  order = h.order;
}

module _ {f : Filter} {i : Input} {g : Grid} {orders : List ℕ} (filters : List ℤ) {copy differences : ℕ} {taps : List ℤ} {output : ℕ}
    (is_input : PlanesGiven f i g orders) (is_numbers : Numbers f filters) (is_rooms : FilterRooms f i.layout.picture copy differences taps output) where
  -- by the name that the filter turns out to have
  by_name : {name : Filter} → f ≡ name
      → PlanesGiven name i g orders × Numbers name filters × FilterRooms name i.layout.picture copy differences taps output
  by_name e = rw (← e) (is_input, is_numbers, is_rooms)

  pub luma_work : f ≡ Luma → LumaPieceInput i.layout.picture g i.luma filters orders copy differences taps output
  luma_work e =
      let (given, numbers, rooms) = by_name e in
      record {
        blocks = record {
          picture = given.picture;
          numbers = numbers;
          order = given.order;
          spread = rooms.spread;
          output_length = simp div-one at rooms.output_length;
        };
        luma_length = given.luma_length refl;
        samples = given.luma refl;
        copy_room = rooms.copy_room;
        difference_room = rooms.difference_room;
      }

  pub chroma_work : {component : ℕ} → f ≡ Chroma component → ChromaWork i.layout.picture g i.chroma filters copy taps output
  chroma_work e =
      let (given, numbers, rooms) = by_name e in
      record {
        picture = given.picture;
        chroma_length = given.chroma_length refl;
        output_length = rooms.output_length;
        samples = given.chroma refl;
        filter_length = numbers.count;
        coefficients = numbers.coefficients;
        clips = numbers.clips;
        copy_room = rooms.copy_room;
        numbers = rooms.spread;
      }

  pub cross_work : {component : ℕ} → f ≡ CrossComponent component
      → CrossWork i.layout.picture g i.luma i.chroma filters copy differences output
  cross_work e =
      let (given, numbers, rooms) = by_name e in
      record {
        planes = record {
          picture = given.picture;
          chroma_length = given.chroma_length refl;
          output_length = rooms.output_length;
          chroma_samples = given.chroma refl;
          filter_length = numbers.count;
          coefficients = numbers.coefficients;
        };
        luma_length = given.luma_length refl;
        luma_samples = given.luma refl;
        copy_room = rooms.copy_room;
        split_room = omega (arith, rooms.difference_room);
      }

-- a piece of whole blocks in the samples of a chroma plane
pub scaled_in : {n r : ℕ} {p : Piece} → Ratio r → BlockPiece n p → PieceIn (n / r) (scaled r p)
unfolding scaled
scaled_in whole b = omega arith
scaled_in half b = omega arith

-- ---- what they leave

module _ (f : Filter) (own : Input) (sides : Sides) (columns rows : Piece) (filters : List ℤ) (old new : List ℕ) where
  abbrev p : Picture
  p = own.layout.picture

  -- by its name
  abbrev Named : Filter → Type 0
  Named f = PieceFiltered f own sides columns rows filters old new

  pub luma-filtered : f ≡ Luma → ((i : Input) (c : Ctb) → CtbOf i.layout own.layout.picture c sides → i.luma ≡ own.luma → LumaFilters i c filters
      → PieceOf (luma_plane i.layout).columns (column_side i.layout c) c.column columns
      → PieceOf (luma_plane i.layout).rows (row_side i.layout c) c.row rows
      → new ≡ painted old (in_rect p.width columns.start columns.end rows.start rows.end)
      (at_index (luma_plane i.layout) (luma_sample i)))
      → Named f
  luma-filtered e h = subst Named (sym e) (λ i c of same other own across down. simp div-one (h i c of same own across down))

  pub chroma-filtered : {component : ℕ} → f ≡ Chroma component → BlockPiece p.width columns → BlockPiece p.height rows
      → (columns' rows' : Piece) → columns' ≡ scaled (sub_width p) columns → rows' ≡ scaled (sub_height p) rows
      → ((i : Input) (c : Ctb) (component : ℕ) → CtbOf i.layout own.layout.picture c sides → i.chroma ≡ own.chroma → ChromaFilter i c component filters
      → PieceOf (unlined_plane i.layout).columns (column_side i.layout c) c.column columns'
      → PieceOf (unlined_plane i.layout).rows (row_side i.layout c) c.row rows'
      → new ≡ painted old (in_rect (p.width / sub_width p) columns'.start columns'.end rows'.start rows'.end)
      (at_index (chroma_plane i.layout) (chroma_sample i component)))
      → Named f
  unfolding plane_of scaled
  chroma-filtered {component} e wide high columns' rows' column row h = subst Named (sym e) (λ i c of other same own across down.
      let ratios = chroma_ratios p in
      let l = i.layout in
      let width : sub_width p ≡ sub_width l.picture = ap sub_width (sym of.picture) in
      let height : sub_height p ≡ sub_height l.picture = ap sub_height (sym of.picture) in
      h i c component of same own
      (rw (column, ← width) (scaled-piece l.picture.width (ctb_size l.picture) l.virtual_columns 0 (column_side l c)
      c.column (sub_width p)
      (boundary (sub_width p) ratios.0 columns.start (omega (arith, wide.start4))) across))
      (rw (row, ← height) (scaled-piece l.picture.height (ctb_size l.picture) l.virtual_rows 0 (row_side l c) c.row (sub_height p)
      (boundary (sub_height p) ratios.1 rows.start (omega (arith, high.start4))) down))
      ∙ (λ t. painted old (in_rect (p.width / sub_width p) (column t).start (column t).end (row t).start (row t).end)
      (at_index (chroma_plane i.layout) (chroma_sample i component))))

  pub cross_filtered : {component : ℕ} → f ≡ CrossComponent component
      → ((i : Input) (c : Ctb) (component : ℕ) → CtbOf i.layout own.layout.picture c sides → i.luma ≡ own.luma → i.chroma ≡ own.chroma
      → CrossFilter i c component filters
      → PieceOf (luma_plane i.layout).columns (column_side i.layout c) c.column columns
      → PieceOf (luma_plane i.layout).rows (row_side i.layout c) c.row rows
      → new ≡ painted old (in_rect (p.width / sub_width p) (columns.start / sub_width p) (columns.end / sub_width p)
      (rows.start / sub_height p) (rows.end / sub_height p)) (at_index (chroma_plane i.layout) (cross_sample i component)))
      → Named f
  cross_filtered {component} e h = subst Named (sym e) (λ i c of same other own across down. h i c component of same other own across down)
