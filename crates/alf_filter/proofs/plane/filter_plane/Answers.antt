-- Sides and marks are planned, the input is copied, and the marked CTBs are filtered. What the code reads of the input are parts of the
-- value that the clauses name: `view_is` says so.
use Rattle.std.proofs.Common.{◌≡◌, zero, length, get_or, refl, ap, ◌∙◌, arith}
use lib.ListN.{length-replicate}
use Rattle.alf_spec.specs.Filters.{operation_of}
use Rattle.alf_spec.specs.Input.{Layout, Input, with_output}
use Rattle.alf_math.proofs.Grids.{few-ctbs, few_in_layout}
use Rattle.alf_boundary.proofs.Tables.{tables_of_lem}
use Rattle.alf_params.proofs.AcceptedTables.{accepted_tables}
use Rattle.alf_filter.proofs.AcceptedFilters.{filters-given, layout-accepted, output_size, component-accepted, tables_accepted}
use Rattle.alf_filter.proofs.AcceptedFilters.{plane_length_lem, listed_below}
use Rattle.alf_filter.proofs.FilteredCtbs.{marks_on, marked_result}
use Rattle.alf_filter.proofs.plane.filter_plane.Goals as goal

pub grid-grid-requires : goal.grid-grid-requires
grid-grid-requires c =
    let own = c.args.input.now in
    let layout : c.input.inside.layout ≡ own.layout = ap (λ (i : Input). i.layout) c.input.view_is in
    let picture : c.layout.inside.picture ≡ own.layout.picture = ap (λ (l : Layout). l.picture) (c.layout.view_is ∙ layout) in
    let ok = layout-accepted c.args.filter (with_output (length c.args.output.now) own) c.requires in
    rw picture (ok.sizes, ok.ctb_size)

pub plan_sides-requires : goal.plan_sides-requires
plan_sides-requires c =
    let own = c.args.input.now in
    let layout : c.input.inside.layout ≡ own.layout = ap (λ (i : Input). i.layout) c.input.view_is in
    let picture : c.layout.inside.picture ≡ own.layout.picture = ap (λ (l : Layout). l.picture) (c.layout.view_is ∙ layout) in
    let ok = layout-accepted c.args.filter (with_output (length c.args.output.now) own) c.requires in
    let grid = rw picture at c.grid-grid.ensures in
    rw layout (grid, few-ctbs grid, tables_of_lem own.layout _ grid ok)

pub mark_listed-requires : goal.mark_listed-requires
mark_listed-requires c =
    let f = c.args.filter in
    let i = with_output (length c.args.output.now) c.args.input.now in
    let ok = layout-accepted f i c.requires in (
      component-accepted f i c.requires,
      λ j h.
          let below = listed_below f i c.requires j h in (
            omega (arith, below, few_in_layout i.layout ok.sizes ok.ctb_size),
            (accepted_tables (operation_of f) i c.requires (filters-given f) (get_or i.ctb_list j 0) below).ctb_numbers,
          ),
    )

pub copy_input-requires : goal.copy_input-requires
copy_input-requires c = plane_length_lem c.args.filter (with_output (length c.args.output.now) c.args.input.now) c.requires

pub filter_marked-requires : goal.filter_marked-requires
filter_marked-requires c =
    let f = c.args.filter in
    let own = c.args.input.now in
    let n = length c.args.output.now in
    let i = with_output n own in
    let layout : c.input.inside.layout ≡ own.layout = ap (λ (i : Input). i.layout) c.input.view_is in
    let picture : c.layout.inside.picture ≡ own.layout.picture = ap (λ (l : Layout). l.picture) (c.layout.view_is ∙ layout) in (
      tables_accepted f own n c.requires (rw picture at c.grid-grid.ensures) c.tap_orders-orders.ensures,
      c.plan_sides.ensures.0 ∙ length-replicate 16384 zero,
      c.mark_listed.ensures.0 ∙ length-replicate 16384 zero,
      marks_on f i (c.mark_listed.ensures.1 i refl),
      ap length c.copy_input.ensures ∙ plane_length_lem f i c.requires ∙ output_size f i c.requires,
    )

pub returns : goal.returns
returns c =
    let own = c.args.input.now in
    let i = with_output (length c.args.output.now) own in
    let layout : c.input.inside.layout ≡ own.layout = ap (λ (i : Input). i.layout) c.input.view_is in
    marked_result c.args.filter i c.requires (c.mark_listed.ensures.1 i refl) c.copy_input.ensures
    (c.filter_marked.ensures i (record { accepted = c.requires; same = refl })
    (rw layout at (c.plan_sides.ensures.1 own.layout.virtual_columns own.layout.virtual_rows)))
