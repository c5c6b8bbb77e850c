-- The number of CTBs is the layout's. Assumes nothing.
use Rattle.std.proofs.Common.{rules, ◌≡◌, ltb}
use Rattle.alf_spec.specs.Lists.{every}
use Rattle.alf_spec.specs.Faults.{addresses_valid}
use Rattle.alf_validate_tables.proofs.samples.addresses_valid.Goals as goal

pub returns-clause-part : goal.returns-clause-part
unfolding addresses_valid
returns-clause-part c l e =
    let own : c.every.result ≡ every (λ n. ltb n c.args.ctb_total) c.args.ctb_list.now = search rules in
    rw e own
