-- The pieces of a CTB along an axis: where one ends, and what reads from its samples are clamped to, both by the clip positions of
-- `alf_spec`. `proofs/PieceFacts` shows that this is the clamping of `alf_spec`, for every sample of the piece. Assumes nothing.
use Rattle.std.specs.Prelude.{◌≡◌, true, cond, ℕ, zero, suc, pred, ◌+◌, ◌-◌, ◌*◌, ◌/◌, ◌%◌, ◌≤◌, ◌<◌, min}
use Rattle.alf_spec.specs.declared.ClipCause.{ClipCause}
use Rattle.alf_spec.specs.declared.Picture.{Picture}
use Rattle.alf_spec.specs.declared.Ctb.{Ctb}
use Rattle.alf_spec.specs.declared.Sides.{Sides}
use Rattle.alf_spec.specs.Lists.{elem}
use Rattle.alf_spec.specs.Input.{Layout}
use Rattle.alf_spec.specs.Geometry.{Side, before, after, Axis, has_line, luma_position}
use Rattle.alf_spec.specs.Boundary.{clip_position}
use Rattle.alf_spec.specs.Padding.{is_none, lowest, limit}
use Rattle.alf_spec.specs.Faults.{picture_size_valid, ctb_size_valid, virtual_boundaries_valid}
use Rattle.alf_boundary.specs.declared.clips.CtbAxis.{CtbAxis}
use Rattle.alf_boundary.specs.Tables.{SidesOf}
use Rattle.alf_pieces.specs.declared.pieces.Piece.{Piece}

-- ---- where a piece ends, in luma positions

-- pieces are found with the line 4 luma rows above a CTB's bottom, or with none: then clip positions are multiples of 4
abbrev pub WalkLine : ℕ → Type 0
WalkLine n = (n % 4 ≡ 0) × (n ≤ 4)

-- where the CTB at place q ends in the picture: the last CTB may not be whole
abbrev pub ctb_limit : Axis → ℕ → ℕ
ctb_limit a q = min (q * a.ctb + a.ctb) a.size

-- where the CTB that an axis goes through ends in the picture
abbrev pub limit_along : CtbAxis → ℕ
limit_along a = min (a.place * a.ctb + a.ctb) a.size

-- a block of 4 luma samples from x on lies in the CTB that an axis goes through, and all numbers are as small as 32-bit sums need
pub record BlockAt (a : CtbAxis) (x : ℕ) : Type 0 where
  pub low : 4 ≤ a.ctb
  pub high : a.ctb ≤ 128
  pub line : a.line ≤ 4
  pub size : a.size ≤ 4096
  pub from : a.place * a.ctb ≤ x
  pub upto : x + 4 ≤ limit_along a

-- the line-buffer boundary of the CTB at place q
abbrev pub ctb_line : Axis → ℕ → ℕ
ctb_line a q = q * a.ctb + (a.ctb - a.line)

-- a run of blocks of 4 samples from x on, at most n of them: it ends with the first block whose last sample has a clip position after it
unfoldable pub run_end : Axis → (Side → ClipCause) → ℕ → ℕ → ℕ
run_end a side zero x = x
run_end a side (suc n) x = cond (is_none (clip_position a (x + 3) side after)) (run_end a side n (x + 4)) (x + 4)

-- the piece that begins at x ends where such a run does, or where the CTB ends
unfoldable pub piece_end : Axis → (Side → ClipCause) → ℕ → ℕ → ℕ
piece_end a side q x = run_end a side ((ctb_limit a q - x) / 4) x

-- ---- what reads are clamped to

-- the piece that begins at the plane's own sample x: reads are clamped to the clip position before its first sample, and to that after its
-- last
unfoldable pub piece_at : Axis → (Side → ClipCause) → ℕ → ℕ → Piece
piece_at a side q x = record {
  start = x;
  end = piece_end a side q (luma_position a x) / a.ratio;
  lowest = lowest a (clip_position a (luma_position a x) side before);
  limit = limit a (clip_position a (pred (piece_end a side q (luma_position a x))) side after);
}

-- a piece of the luma plane in the samples of a plane with this ratio to luma
unfoldable pub scaled : ℕ → Piece → Piece
scaled ratio p = record { start = p.start / ratio; end = p.end / ratio; lowest = p.lowest / ratio; limit = p.limit / ratio }

-- ---- a piece that is given

-- a piece of the CTB at place q may begin at the luma position x: at the CTB's side, at a virtual boundary, at the line-buffer boundary
pub data Begins (a : Axis) (q x : ℕ) : Type 0 where
  at_side : x ≡ q * a.ctb → Begins a q x
  at_boundary : elem x a.virtual_boundaries ≡ true → Begins a q x
  at-line : has_line a ≡ true → x ≡ ctb_line a q → Begins a q x

-- p is a piece of the CTB at place q
pub record PieceOf (a : Axis) (side : Side → ClipCause) (q : ℕ) (p : Piece) : Type 0 where
  pub from : q * a.ctb ≤ luma_position a p.start
  pub upto : luma_position a p.start < ctb_limit a q
  pub begins : Begins a q (luma_position a p.start)
  pub is : p ≡ piece_at a side q p.start

-- the numbers of a piece, along n samples of a plane: what indexes need
pub record PieceIn (n : ℕ) (p : Piece) : Type 0 where
  pub low : p.lowest ≤ p.start
  pub filled : p.start < p.end
  pub high : p.end ≤ p.limit
  pub inside : p.limit ≤ n
  pub small : p.end ≤ p.start + 128

-- a piece of whole 4 by 4 blocks, along n samples of the luma plane
pub record BlockPiece (n : ℕ) (p : Piece) : Type 0 where
  pub numbers : PieceIn n p
  pub start4 : p.start % 4 ≡ 0
  pub end4 : p.end % 4 ≡ 0

-- the CTB c of a layout l, whose picture p and virtual boundaries are accepted, has the sides s
pub record CtbOf (l : Layout) (p : Picture) (c : Ctb) (s : Sides) : Type 0 where
  pub picture : l.picture ≡ p
  pub sizes : picture_size_valid p ≡ true
  pub ctb_size : ctb_size_valid p ≡ true
  pub virtual_boundaries : virtual_boundaries_valid l ≡ true
  pub sides : SidesOf l c s
