-- The three filters under one name: what each is to `alf_spec`. Assumes nothing.
use Rattle.std.specs.Prelude.{Bool, List, ℕ, ℤ}
use Rattle.alf_spec.specs.declared.Ctb.{Ctb}
use Rattle.alf_spec.specs.declared.Picture.{Picture}
use Rattle.alf_spec.specs.Input.{Layout, Input}
use Rattle.alf_spec.specs.Geometry.{Plane, sub_width, sub_height, plane_of}
use Rattle.alf_spec.specs.Luma.{luma_sample}
use Rattle.alf_spec.specs.Chroma.{chroma_sample}
use Rattle.alf_spec.specs.CrossComponent.{cross_sample}
use Rattle.alf_spec.specs.Process.{luma_on, chroma_on, cross_on}
use Rattle.alf_params.specs.Filters.{LumaFilters, ChromaFilter}
use Rattle.alf_cross.specs.Pieces.{CrossFilter}
use Rattle.alf_spec.specs.declared.Filter.{Filter}
use Rattle.alf_spec.specs.declared.Filter.TheVariants.{Luma, Chroma, CrossComponent}

-- the ratios to luma of the plane that it writes
abbrev pub column_ratio : Filter → Picture → ℕ
column_ratio Luma p = 1
column_ratio (Chroma component) p = sub_width p
column_ratio (CrossComponent component) p = sub_width p

abbrev pub row_ratio : Filter → Picture → ℕ
row_ratio Luma p = 1
row_ratio (Chroma component) p = sub_height p
row_ratio (CrossComponent component) p = sub_height p

-- how far above a CTB's bottom the line lies at which its pieces end, in luma rows: chroma does not read across its own, so that its pieces
-- go on over it
abbrev pub walk_line : Filter → ℕ
walk_line Luma = 4
walk_line (Chroma component) = 0
walk_line (CrossComponent component) = 4

-- the luma plane with that line: a CTB is filtered by its pieces
abbrev pub walk_plane : Filter → Layout → Plane
walk_plane f l = plane_of l 1 1 (walk_line f)

-- the plane that it filters, of luma and chroma
abbrev pub plane_filtered : Filter → List ℕ → List ℕ → List ℕ
plane_filtered Luma luma_samples chroma_samples = luma_samples
plane_filtered (Chroma component) luma_samples chroma_samples = chroma_samples
plane_filtered (CrossComponent component) luma_samples chroma_samples = chroma_samples

-- a CTB's flag or index is on
abbrev pub is_on : Filter → Input → Ctb → Bool
is_on Luma i = luma_on i
is_on (Chroma component) i = chroma_on i component
is_on (CrossComponent component) i = cross_on i component

-- the filtered sample at a column and a row
abbrev pub sample_of : Filter → Input → ℕ → ℕ → ℕ
sample_of Luma i = luma_sample i
sample_of (Chroma component) i = chroma_sample i component
sample_of (CrossComponent component) i = cross_sample i component

-- these are the numbers of a CTB's filter
abbrev pub OwnFilter : Filter → Input → Ctb → List ℤ → Type 0
OwnFilter Luma i c filters = LumaFilters i c filters
OwnFilter (Chroma component) i c filters = ChromaFilter i c component filters
OwnFilter (CrossComponent component) i c filters = CrossFilter i c component filters
