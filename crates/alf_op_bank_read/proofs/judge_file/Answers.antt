-- The length of the bank is judged first, then the first field, then the others. Assumes nothing.
use Rattle.std.proofs.Common.{rules, ◌≡◌, ◌≢◌, length, get_or, ◌^◌}
use Rattle.std.proofs.lemmas.Result.{err_from_is_err_and}
use Rattle.alf_op_bank_read.proofs.Steps.{wrong_length, empty_file, first_faulty, rest_decides}
use Rattle.alf_op_bank_read.proofs.judge_file.Goals as goal

pub returns-then-bank_length-ne6016-clause-fault : goal.returns-then-bank_length-ne6016-clause-fault
returns-then-bank_length-ne6016-clause-fault c = wrong_length _ _ c.if-bank_length-ne6016.true

pub returns-then-is_empty-clause-fault : goal.returns-then-is_empty-clause-fault
returns-then-is_empty-clause-fault c =
    let empty : length c.args.file.now ≡ 0 = search rules in
    empty_file _ _ (search rules) empty

pub returns-in_err-depth-clause-fault : goal.returns-in_err-depth-clause-fault
returns-in_err-depth-clause-fault c =
    let p = err_from_is_err_and c.from_residual.result c.from_residual.ensures.1 in
    let some : length c.args.file.now ≢ 0 = search rules in
    rw (p.1, p.2) (first_faulty _ _ (search rules) some _ c.in_err-depth.ensures.fault)

pub returns-in_err-filters_fault-clause-fault : goal.returns-in_err-filters_fault-clause-fault
returns-in_err-filters_fault-clause-fault c =
    let r = c.from_residual-in_err-filters_fault in
    let p = err_from_is_err_and r.result r.ensures.1 in
    let some : length c.args.file.now ≢ 0 = search rules in
    let limit : c.clip_limit.result ≡ 2 ^ get_or c.args.file.now 3 0 = cc (c.clip_limit.ensures, c.in_ok-depth.ensures.depth.0) in
    rw (p.1, p.2) (rest_decides _ _ (search rules) some c.in_ok-depth.ensures.fault limit c.in_err-filters_fault.ensures)

pub returns-clause-fault : goal.returns-clause-fault
returns-clause-fault c =
    let some : length c.args.file.now ≢ 0 = search rules in
    let limit : c.clip_limit.result ≡ 2 ^ get_or c.args.file.now 3 0 = cc (c.clip_limit.ensures, c.in_ok-depth.ensures.depth.0) in
    rest_decides _ _ (search rules) some c.in_ok-depth.ensures.fault limit c.in_ok-filters_fault.ensures
