use Rattle.std.proofs.Common.{◌≡◌, take}
use Rattle.alf_spec.specs.Input.{Input}
use Rattle.alf_lists.proofs.Painted.{Paint}
use Rattle.alf_filter.specs.FilteredCtbs.{is_listed, on_mark}
use Rattle.alf_filter.proofs.listed_ctbs.mark_listed.Given as goal

-- the CTBs of the entries that are passed have their marks
abbrev pub invariant-loop-address : goal.invariant-loop-address
invariant-loop-address l =
    (i : Input) → i.ctb_params ≡ l.input.ctb_params
    → Paint l.initial.marks (is_listed (take l.address-index l.input.ctb_list)) (on_mark l.filter i) l.marks
