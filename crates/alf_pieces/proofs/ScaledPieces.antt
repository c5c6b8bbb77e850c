-- A piece of the luma plane, in the samples of another plane, is the piece of that plane. Assumes nothing.
use mathlib.Core.Path.{◌≡◌, refl, sym, ap, ◌∙◌}
use mathlib.Core.Bool.{cond}
use mathlib.Core.List.{List}
use mathlib.Core.Option.{Option, some, none}
use Prim.Native.Nat.{ℕ, zero, suc, pred, ◌+◌, ◌-◌, ◌*◌, ◌/◌}
use native.Mathlib.Nat.{mul-one, div-one, zero-div}
use native.Mathlib.Omega.{arith}
use Rattle.alf_spec.specs.declared.ClipCause.{ClipCause}
use Rattle.alf_spec.specs.Geometry.{Side, before, after, Axis, luma_position, axis_of}
use Rattle.alf_spec.specs.Boundary.{line_clip, virtual_clip, side_clip, clip, clip_position}
use Rattle.alf_spec.specs.Padding.{is_none, lowest, limit}
use Rattle.alf_pieces.specs.declared.pieces.Piece.{Piece}
use Rattle.alf_pieces.specs.Pieces.{ctb_limit, run_end, piece_end, piece_at, scaled, Begins, at_side, at_boundary, at-line, PieceOf}

module _ (size ctb : ℕ) (list : List ℕ) (line : ℕ) (side : Side → ClipCause) (q ratio : ℕ) where
  abbrev luma : Axis
  luma = axis_of size ctb list line 1

  abbrev own : Axis
  own = axis_of size ctb list line ratio

  same_begin : {x : ℕ} → Begins luma q x → Begins own q x
  same_begin (at_side e) = at_side e
  same_begin (at_boundary e) = at_boundary e
  same_begin (at-line h e) = at-line h e

  -- the clip positions do not depend on the ratio
  same-clip : (x : ℕ) (d : Side) → clip_position luma x side d ≡ clip_position own x side d
  unfolding clip_position clip line_clip virtual_clip side_clip
  same-clip x before = refl
  same-clip x after = refl

  same_run : (n x : ℕ) → run_end luma side n x ≡ run_end own side n x
  unfolding run_end
  same_run zero x = refl
  same_run (suc n) x = λ t. cond (is_none (same-clip (x + 3) after t)) (same_run n (x + 4) t) (x + 4)

  same_end : (x : ℕ) → piece_end luma side q x ≡ piece_end own side q x
  unfolding piece_end
  same_end x = same_run ((ctb_limit luma q - x) / 4) x

  lowest-scaled : (o : Option ℕ) → lowest luma o / ratio ≡ lowest own o
  lowest-scaled none = zero-div ratio
  lowest-scaled (some e) = ap (λ (n : ℕ). n / ratio) (div-one e)

  limit-scaled : (o : Option ℕ) → limit luma o / ratio ≡ limit own o
  limit-scaled none = ap (λ (n : ℕ). n / ratio) (div-one size)
  limit-scaled (some e) = ap (λ (n : ℕ). n / ratio) (div-one e)

  -- of a piece that begins at a whole sample of the plane
  module _ {p : Piece} (whole : p.start / ratio * ratio ≡ p.start) (h : PieceOf luma side q p) where
    start_is : luma_position luma p.start ≡ luma_position own (p.start / ratio)
    start_is = mul-one p.start ∙ sym whole

    last-is : piece_end luma side q (luma_position luma p.start) ≡ piece_end own side q (luma_position own (p.start / ratio))
    last-is = ap (piece_end luma side q) start_is ∙ same_end _

    same-piece : scaled ratio (piece_at luma side q p.start) ≡ piece_at own side q (p.start / ratio)
    unfolding scaled piece_at
    same-piece = λ t. record {
      start = p.start / ratio;
      end = (ap (λ (n : ℕ). n / ratio) (div-one _) ∙ ap (λ (n : ℕ). n / ratio) last-is) t;
      lowest = (lowest-scaled (clip_position luma (luma_position luma p.start) side before)
          ∙ ap (λ (n : ℕ). lowest own (clip_position luma n side before)) start_is ∙ ap (lowest own) (same-clip _ before)) t;
      limit = (limit-scaled (clip_position luma (pred (piece_end luma side q (luma_position luma p.start))) side after)
          ∙ ap (λ (n : ℕ). limit own (clip_position luma (pred n) side after)) last-is ∙ ap (limit own) (same-clip _ after)) t;
    }

    pub scaled-piece : PieceOf own side q (scaled ratio p)
    unfolding scaled
    scaled-piece = record {
      from = omega (arith, h.from);
      upto = omega (arith, h.upto);
      begins = rw whole (same_begin (rw mul-one at h.begins));
      is = ap (scaled ratio) h.is ∙ same-piece;
    }
