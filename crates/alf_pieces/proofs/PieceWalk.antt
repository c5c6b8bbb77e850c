-- A walk over the pieces of a CTB along one axis: where it stands, and how each piece carries it on. Assumes nothing.
use mathlib.Core.Path.{◌≡◌, refl, ap, ◌∙◌, subst}
use mathlib.Core.Bool.{true}
use mathlib.Core.List.{List}
use Prim.Native.Nat.{ℕ, ◌*◌, ◌/◌, ◌≤◌, ◌<◌}
use native.Mathlib.Nat.{mul-one}
use native.Mathlib.Omega.{arith}
use Rattle.alf_spec.specs.declared.ClipCause.{ClipCause}
use Rattle.alf_spec.specs.declared.Picture.{Picture}
use Rattle.alf_spec.specs.declared.Grid.{Grid}
use Rattle.alf_spec.specs.declared.Sides.{Sides}
use Rattle.alf_spec.specs.Geometry.{Side, before, after, Axis, ctb_size, axis_of}
use Rattle.alf_spec.specs.Faults.{size_valid, virtual_list_valid}
use Rattle.alf_spec.proofs.Accepted.{sizes_valid}
use Rattle.alf_spec.proofs.Axes.{Regular, regular}
use Rattle.alf_spec.proofs.Ratios.{whole}
use Rattle.alf_math.specs.Grids.{AcceptedPicture}
use Rattle.alf_math.proofs.Grids.{width_bounds, height_bounds}
use Rattle.alf_boundary.specs.declared.clips.CtbAxis.{CtbAxis}
use Rattle.alf_boundary.specs.Clips.{column_axis, row_axis, axis_along, sides_along}
use Rattle.alf_boundary.proofs.ClipRules.{sides-same}
use Rattle.alf_pieces.specs.declared.pieces.Piece.{Piece}
use Rattle.alf_pieces.specs.Pieces.{WalkLine, limit_along, BlockAt, piece_at, at_side, PieceOf, BlockPiece}
use Rattle.alf_pieces.specs.Walks.{Along, Walk, Turn}
use Rattle.alf_pieces.proofs.PieceEnds.{begins4, limit4}
use Rattle.alf_pieces.proofs.PieceFacts.{Facts, piece_facts}

-- ---- the axis

-- columns have no line
pub walk_none : WalkLine 0
walk_none = omega arith

-- the line of luma
pub walk_luma : WalkLine 4
walk_luma = omega arith

module _ {p : Picture} {g : Grid} (ok : AcceptedPicture p g) {list : List ℕ} where
  -- an axis of its columns or its rows
  along : (a : CtbAxis) → a.ctb ≡ g.ctb → size_valid a.size ≡ true → virtual_list_valid a.size (ctb_size p) list ≡ true
      → a.size ≤ 4096 → WalkLine a.line → a.place * a.ctb < a.size → Along a list
  along a same wide valid small line begins =
      let r = regular p ok.ctb_size a.size list a.line 1 wide valid in
      let e : a.ctb ≡ ctb_size p = same ∙ ok.grid.ctb in
      record {
        ctb_low = rw e r.big;
        ctb_high = rw same ok.grid.ctb_high;
        ctb8 = rw e r.ctb8;
        size_high = small;
        size8 = r.size8;
        virtual8 = r.virtual8;
        line = line;
        begins = begins;
      }

  pub columns_along : (s : Sides) (q : ℕ) → virtual_list_valid p.width (ctb_size p) list ≡ true → q * g.ctb < p.width
      → Along (column_axis p g s q) list
  columns_along s q valid begins =
      along (column_axis p g s q) refl (sizes_valid p ok.sizes).0 valid (width_bounds p ok.sizes ok.ctb_size).1 walk_none begins

  pub rows_along : (s : Sides) (q : ℕ) {line : ℕ} → WalkLine line → virtual_list_valid p.height (ctb_size p) list ≡ true
      → q * g.ctb < p.height → Along (row_axis p g s line q) list
  rows_along s q {line} walk valid begins =
      along (row_axis p g s line q) refl (sizes_valid p ok.sizes).1 valid (height_bounds p ok.sizes ok.ctb_size).1 walk begins

-- ---- the walk

-- a piece of the luma plane has whole blocks
pub block_piece : {n ctb : ℕ} {list : List ℕ} {line : ℕ} {side : Side → ClipCause} {q : ℕ} {p : Piece}
    → Facts (axis_of n ctb list line 1) side q p → BlockPiece n p
block_piece {n = n} {p = p} f =
    let own : n / 1 ≡ n = omega arith in
    record { numbers = rw own at f.numbers; start4 = omega (arith, f.start4); end4 = omega (arith, f.end4) }

module _ {a : CtbAxis} {list : List ℕ} (along : Along a list) where
  regular_along : Regular (axis_along a list 1)
  regular_along = record { big = along.ctb_low; ctb8 = along.ctb8; size8 = along.size8; virtual8 = along.virtual8 }

  -- the walk begins where the CTB does
  pub walk_start : {x : ℕ} → x ≡ a.place * a.ctb → Walk a list x
  walk_start e = record { from = omega arith; upto = omega (arith, along.begins); begins = λ _. at_side e }

  module _ {x : ℕ} (w : Walk a list x) (here : x < limit_along a) where
    -- a block of 4 samples is left, since pieces begin and CTBs end at multiples of 4
    pub walk_block : BlockAt a x
    walk_block = record {
      low = omega (arith, along.ctb_low);
      high = along.ctb_high;
      line = along.line.1;
      size = along.size_high;
      from = w.from;
      upto = omega (
        arith,
        begins4 (axis_along a list 1) regular_along along.line a.place x w.from here x (w.begins here),
        limit4 (axis_along a list 1) regular_along along.line a.place x w.from here,
      );
    }

    pub turn : {p : Piece} → p ≡ piece_at (axis_along a list 1) (sides_along a) a.place x → Turn a list x p
    unfolding piece_at
    turn {p} e =
        let piece : PieceOf (axis_along a list 1) (sides_along a) a.place p =
        rw e record { from = omega (arith, w.from); upto = omega arith; begins = rw mul-one (w.begins here); is = refl } in
        let facts = piece_facts _ regular_along along.line whole along.ctb_high _ _ p piece in
        record {
          start = ap (λ (p : Piece). p.start) e;
          piece = piece;
          blocks = block_piece facts;
          next = record {
            from = omega (arith, facts.from, facts.numbers.filled);
            upto = omega (arith, facts.upto);
            begins = λ l. rw mul-one at (facts.next (omega arith));
          };
        }

-- ---- a piece of another axis

-- the same piece, of an axis and sides given otherwise
pub same-piece : {a b : Axis} {side given : Side → ClipCause} {q : ℕ} {p : Piece} → a ≡ b → given before ≡ side before
    → given after ≡ side after
    → PieceOf a given q p → PieceOf b side q p
same-piece {b = b} {given = given} {q = q} {p = p} e first last h =
    subst (λ s. PieceOf b s q p) (sides-same first last) (subst (λ a. PieceOf a given q p) e h)
