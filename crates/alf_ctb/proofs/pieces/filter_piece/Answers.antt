-- The code's reads of the picture and its planes are those of the value that the clauses name: `view_is` says so.
use Rattle.std.proofs.Common.{ℕ, ap, ◌∙◌}
use Rattle.alf_spec.proofs.Ratios.{chroma_ratios}
use Rattle.alf_pieces.specs.Pieces.{scaled}
use Rattle.alf_ctb.proofs.PieceFilters.{luma_work, chroma_work, cross_work, scaled_in, luma-filtered, chroma-filtered}
use Rattle.alf_ctb.proofs.PieceFilters.{cross_filtered}
use Rattle.alf_ctb.proofs.pieces.filter_piece.Goals as goal

pub filter_piece-requires : goal.filter_piece-requires
filter_piece-requires c =
    let pre = rw (← c.planes.view_is) at c.requires in
    (luma_work _ pre.0 pre.1 pre.2 c.in-Luma.is, pre.3, pre.4)

pub filter_piece-requires-in-Chroma : goal.filter_piece-requires-in-Chroma
filter_piece-requires-in-Chroma c =
    let pre = rw (← c.planes.view_is) at c.requires in
    rw (c.scaled.ensures, c.sub_width.ensures.0, c.scaled-in-Chroma.ensures, c.sub_height.ensures.0) (
      chroma_work _ pre.0 pre.1 pre.2 c.in-Chroma.is,
      scaled_in (chroma_ratios _).0 pre.3,
      scaled_in (chroma_ratios _).1 pre.4,
    )

pub filter_piece-requires-in-CrossComponent : goal.filter_piece-requires-in-CrossComponent
filter_piece-requires-in-CrossComponent c =
    let pre = rw (← c.planes.view_is) at c.requires in
    (cross_work _ pre.0 pre.1 pre.2 c.in-CrossComponent.is, pre.3, pre.4)

pub returns-in-Luma : goal.returns-in-Luma
returns-in-Luma c = (
  luma-filtered _ c.args.planes.now _ _ _ _ _ _ c.in-Luma.is
      (rw (← c.planes.view_is) c.filter_piece.ensures.0),
  c.filter_piece.ensures.1,
)

pub returns-in-Chroma : goal.returns-in-Chroma
returns-in-Chroma c =
    let a = c.args in
    let done = c.filter_piece-in-Chroma.ensures in (
      chroma-filtered _ a.planes.now _ _ _ _ _ _ c.in-Chroma.is c.requires.3 c.requires.4 c.scaled.result c.scaled-in-Chroma.result
          (rw (← c.planes.view_is)
          (c.scaled.ensures ∙ ap (λ (r : ℕ). scaled r a.columns) c.sub_width.ensures.0))
          (rw (← c.planes.view_is)
          (c.scaled-in-Chroma.ensures ∙ ap (λ (r : ℕ). scaled r a.rows) c.sub_height.ensures.0))
          (rw (← c.planes.view_is) done.0),
      done.1,
    )

pub returns-in-CrossComponent : goal.returns-in-CrossComponent
returns-in-CrossComponent c = (
  cross_filtered _ c.args.planes.now _ _ _ _ _ _ c.in-CrossComponent.is
      (rw (← c.planes.view_is) c.filter_piece-in-CrossComponent.ensures),
  c.requires.2.spread,
)
