use Rattle.std.proofs.Common.{◌≡◌, ◌*◌, ◌∙◌, arith}
use Rattle.alf_math.specs.Grids.{GridOf}
use Rattle.alf_math.proofs.Grids.{few-ctbs, grid_total}
use Rattle.alf_pieces.proofs.CtbRegions.{ctbs_none, ctbs-next}
use Rattle.alf_filter.proofs.AcceptedFilters.{plane_size, same-picture}
use Rattle.alf_filter.proofs.FilteredCtbs.{all_marked}
use Rattle.alf_filter.proofs.SpreadZeros.{zero_numbers}
use Rattle.alf_filter.proofs.ctbs.filter_marked.Goals as goal

pub loop-k-init : goal.loop-k-init
loop-k-init c = record { numbers = zero_numbers; painted = λ i given planned. ctbs_none _ _ _ _ }

pub filter_address-requires : goal.filter_address-requires
filter_address-requires c =
    let few = few-ctbs c.requires.0.planes.picture.grid in (
      c.requires.0,
      omega arith,
      omega (arith, few),
      omega (arith, few),
      c.requires.3,
      record {
        copy_room = omega arith;
        difference_room = omega arith;
        spread = c.loop-k.invariant.numbers;
        output_length = c.loop-k.auto.output ∙ c.requires.4;
      },
    )

pub loop-k-preserved : goal.loop-k-preserved
loop-k-preserved c = record {
  numbers = c.filter_address.ensures.1;
  painted = λ i given planned.
      ctbs-next _ _ _ _ c.loop-k.k (c.loop-k.invariant.painted i given planned) (c.filter_address.ensures.0 i given planned);
}

pub returns : goal.returns
returns c = λ i given planned.
    let grid : GridOf i.layout.picture c.args.grid = rw (same-picture given) c.requires.0.planes.picture.grid in
    let done : c.loop-k.k ≡ c.args.grid.columns * c.args.grid.rows = omega arith in
    all_marked c.args.filter i given.accepted c.args.marks.now c.loop-k.k (done ∙ grid_total i.layout _ grid) c.args.output.now
    (plane_size c.args.filter i.layout (same-picture given) c.requires.4) (c.loop-k.invariant.painted i given planned)
