-- The loop tests every number with its place. Assumes nothing.
use Rattle.std.proofs.Common.{ap, ◌∙◌, arith}
use mir.Syntax.{w16}
use Rattle.alf_math.proofs.Magnitude.{returned}
use Rattle.alf_spec.specs.Faults.{bank_number_valid}
use Rattle.alf_spec.proofs.Scans.{sofar_more, sofar_done}
use Rattle.alf_validate_tables.proofs.filters.rest_valid.Goals as goal

pub loop-k-init : goal.loop-k-init
loop-k-init c = record { within = c.requires.1; sofar = c.requires.2 }

pub loop-k-preserved : goal.loop-k-preserved
loop-k-preserved c =
    let number = c.number_at in
    sofar_more c.loop-k.invariant (omega arith)
    (c.bank_number_valid-good.ensures
    ∙ ap (bank_number_valid c.args.bit_depth c.loop-k.k) (returned w16 number.type_inv number.ensures))

pub returns : goal.returns
returns c = sofar_done c.loop-k.invariant (omega arith)
