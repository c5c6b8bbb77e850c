-- A turn copies one number more.
use Rattle.std.proofs.Common.{◌≡◌, ◌+◌, ◌-◌, ◌∙◌, ℕ, pos, get_or, ap, arith}
use mir.Syntax.{w16}
use Rattle.alf_math.proofs.Magnitude.{returned}
use Rattle.alf_lists.proofs.Painted.{fill_none, fill_set}
use Rattle.alf_lists.proofs.Regions.{run_none, run_more}
use Rattle.alf_params.specs.Numbers.{copied_from}
use Rattle.alf_params.proofs.filters.copy_numbers.Goals as goal

pub loop-j-init : goal.loop-j-init
loop-j-init c = fill_none (run_none _)

pub loop-j-preserved : goal.loop-j-preserved
unfolding copied_from
loop-j-preserved c =
    let a = c.args in
    let j = c.loop-j.j in
    let own : a.from + j ≡ a.from + ((a.to + j) - a.to) = omega arith in
    let number = c.number_at in
    fill_set _ _ c.loop-j.invariant (omega arith)
    (returned w16 number.type_inv number.ensures ∙ ap (λ (k : ℕ). get_or a.table.now k (pos 0)) own)
    (λ k h. run_more _ _ k)

pub returns : goal.returns
returns c =
    let all : c.loop-j.j ≡ c.args.n = omega arith in
    rw all at c.loop-j.invariant
