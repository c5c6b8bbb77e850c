-- The ratios to luma of the planes that the filters write, and the line that ends their pieces. Assumes nothing.
use Rattle.alf_spec.specs.declared.Picture.{Picture}
use Rattle.alf_spec.proofs.Ratios.{Ratio, whole, chroma_ratios}
use Rattle.alf_pieces.specs.Pieces.{WalkLine}
use Rattle.alf_pieces.proofs.PieceWalk.{walk_none, walk_luma}
use Rattle.alf_spec.specs.declared.Filter.{Filter}
use Rattle.alf_spec.specs.declared.Filter.TheVariants.{Luma, Chroma, CrossComponent}
use Rattle.alf_ctb.specs.Filters.{column_ratio, row_ratio, walk_line}

pub filter_ratios : (f : Filter) (p : Picture) → Ratio (column_ratio f p) × Ratio (row_ratio f p)
filter_ratios Luma p = (whole, whole)
filter_ratios (Chroma component) p = chroma_ratios p
filter_ratios (CrossComponent component) p = chroma_ratios p

-- a CTB's pieces are found with the line 4 rows up, or with none
pub walks : (f : Filter) → WalkLine (walk_line f)
walks Luma = walk_luma
walks (Chroma component) = walk_none
walks (CrossComponent component) = walk_luma
