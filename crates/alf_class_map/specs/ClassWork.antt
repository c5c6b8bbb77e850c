-- What the functions that find the classes of a piece and of a CTB are given, and what they leave. Assumes nothing.
use Rattle.std.specs.Prelude.{◌≡◌, Bool, List, ℕ, ◌*◌, ◌/◌, ◌<◌, length, get_or}
use Rattle.alf_spec.specs.declared.ClipCause.{ClipCause}
use Rattle.alf_spec.specs.declared.Ctb.{Ctb}
use Rattle.alf_spec.specs.declared.Picture.{Picture}
use Rattle.alf_spec.specs.declared.Sides.{Sides}
use Rattle.alf_spec.specs.Lists.{painted}
use Rattle.alf_spec.specs.Input.{Layout}
use Rattle.alf_spec.specs.Geometry.{Side, Axis, luma_plane}
use Rattle.alf_spec.specs.Boundary.{column_side, row_side}
use Rattle.alf_spec.specs.Process.{class_at}
use Rattle.alf_pieces.specs.declared.pieces.Piece.{Piece}
use Rattle.alf_pieces.specs.Pieces.{PieceOf, CtbOf}
use Rattle.alf_pieces.specs.Walks.{Axes, PiecesAlong, in_piece}

-- the map of an accepted picture, and its luma samples
pub record ClassWork (p : Picture) (luma : List ℕ) (map : ℕ) : Type 0 where
  pub map_length : map ≡ p.width / 4 * (p.height / 4)
  pub luma_length : length luma ≡ p.width * p.height
  pub samples : (k : ℕ) → get_or luma k 0 < 4096

-- the classes of a part of the map are written: `new` is `old` with them, for every layout in which a CTB has these sides, and its pieces
-- are as the two conditions say
abbrev pub Classified : Picture → Sides → List ℕ → (Axis → (Side → ClipCause) → ℕ → Type 0) → (Axis → (Side → ClipCause) → ℕ → Type 0)
    → (ℕ → Bool) → List ℕ → List ℕ → Type 0
Classified p sides luma Columns Rows part old new =
    (l : Layout) (c : Ctb) → CtbOf l p c sides → Columns (luma_plane l).columns (column_side l c) c.column
    → Rows (luma_plane l).rows (row_side l c) c.row → new ≡ painted old part (class_at l luma)

-- those of a piece
abbrev pub PieceClassified : Picture → Sides → Piece → Piece → List ℕ → List ℕ → List ℕ → Type 0
PieceClassified p sides columns rows luma =
    Classified p sides luma (λ a side q. PieceOf a side q columns) (λ a side q. PieceOf a side q rows)
    (in_piece (p.width / 4) 4 4 columns rows)

-- those of a part of the CTB through which these axes go
abbrev pub AxesClassified : Picture → Sides → Axes → List ℕ → (ℕ → Bool) → List ℕ → List ℕ → Type 0
AxesClassified p sides x luma = Classified p sides luma (PiecesAlong x.columns x.virtual_columns) (PiecesAlong x.rows x.virtual_rows)
