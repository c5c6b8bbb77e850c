-- Nothing is written where the CTB is not marked, and what is accepted has what its filter needs.
use Rattle.std.proofs.Common.{◌≡◌, ◌/◌, ◌%◌, refl, sym, ap, ◌∙◌}
use mathlib.Core.Path.{subst}
use native.Mathlib.Nat.{div-add-mod'}
use Rattle.alf_spec.specs.declared.Ctb.{Ctb}
use Rattle.alf_spec.specs.declared.Picture.{Picture}
use Rattle.alf_spec.specs.Geometry.{address}
use Rattle.alf_spec.specs.Input.{Input}
use Rattle.alf_math.specs.Grids.{GridOf}
use Rattle.alf_math.proofs.Grids.{grid-columns}
use Rattle.alf_math.proofs.CtbAddresses.{ctb_in_picture}
use Rattle.alf_pieces.specs.Pieces.{CtbOf}
use Rattle.alf_pieces.proofs.CtbPieces.{ctb-accepted, column_pieces, row_pieces}
use Rattle.alf_pieces.proofs.PieceWalk.{columns_along, rows_along}
use Rattle.alf_pieces.proofs.CtbRegions.{ctb_passes_lem, ctb_fails}
use Rattle.alf_sides.proofs.PlannedSides.{planned_sides}
use Rattle.alf_params.proofs.LoadedFilters.{zeros}
use Rattle.alf_ctb.specs.Filters.{walk_line}
use Rattle.alf_ctb.proofs.PieceFilters.{planes_given}
use Rattle.alf_ctb.proofs.Ratios.{walks}
use Rattle.alf_filter.proofs.AcceptedFilters.{layout-accepted, same-picture, same_virtual_columns, same_virtual_rows, same-luma}
use Rattle.alf_filter.proofs.AcceptedFilters.{same-chroma, same_tables, same-fixed}
use Rattle.alf_filter.proofs.CtbFilters.{ctb-done}
use Rattle.alf_filter.proofs.ctbs.filter_address.Goals as goal

pub returns-then-not-is_marked : goal.returns-then-not-is_marked
returns-then-not-is_marked c = (
  (λ i given planned. ctb_fails _ _ _ _ _ _ (sym c.is_marked.ensures ∙ c.if-not-is_marked.true)),
  c.requires.5.spread,
)

pub load-requires : goal.load-requires
load-requires c =
    let accepted = c.requires.0 in
    let on = sym c.is_marked.ensures ∙ c.if-not-is_marked.false in (
      accepted.component,
      accepted.ctbs c.args.k c.requires.1,
      accepted.fixed,
      c.requires.4 c.args.k c.requires.3 on,
      refl,
      zeros 600,
    )

pub filter_ctb-requires : goal.filter_ctb-requires
filter_ctb-requires c =
    let layout : c.input.inside.layout ≡ c.args.input.now.layout = ap (λ (i : Input). i.layout) c.input.view_is in
    let accepted = c.requires.0 in
    let picture = accepted.planes.picture in
    let begins = ctb_in_picture picture.grid c.args.k c.requires.1 in
    let sides = c.sides_at-own_sides.result in
    rw (c.through-axes.ensures, c.walk_line.ensures, c.of.ensures, layout) (
      planes_given accepted.planes,
      c.load.ensures.0,
      c.requires.5,
      (
        columns_along picture sides _ accepted.virtual_columns begins.0,
        rows_along picture sides _ (walks c.args.filter) accepted.virtual_rows begins.1,
      ),
      refl,
      refl,
    )

pub returns : goal.returns
returns c =
    let layout : c.input.inside.layout ≡ c.args.input.now.layout = ap (λ (i : Input). i.layout) c.input.view_is in
    let f = c.args.filter in
    let g = c.args.grid in
    let k = c.args.k in
    let ctb : Ctb = record { column = k % g.columns; row = k / g.columns } in
    let picture = c.requires.0.planes.picture in
    let on = sym c.is_marked.ensures ∙ c.if-not-is_marked.false in
    let done = rw (c.through-axes.ensures, c.walk_line.ensures, c.of.ensures, layout) at c.filter_ctb.ensures in (
      (λ i of planned.
          let ok = layout-accepted f i of.accepted in
          let same = same-picture of in
          let grid : GridOf i.layout.picture g = rw same picture.grid in
          let sides = planned_sides i.layout grid c.args.sides.now planned k c.requires.1 c.sides_at-own_sides.ensures in
          let own = subst (λ (p : Picture). CtbOf i.layout p ctb c.sides_at-own_sides.result) same (ctb-accepted ok sides) in
          let at : address i.layout ctb ≡ k = rw (← (grid-columns i.layout _ grid)) (div-add-mod' k g.columns) in
          ctb_passes_lem _ _ _ _ k _ on
          (ctb-done f i.layout ok g _ _ _ k same picture.grid c.requires.5.output_length
          (done.0 i ctb own (same-luma of) (same-chroma of) (c.load.ensures.1 i _ (same_tables of at) (same-fixed of))
          (column_pieces own picture.grid (walk_line f) (same_virtual_columns of))
          (row_pieces own picture.grid (walk_line f) (same_virtual_rows of))))),
      done.1,
    )
