-- The stronger of two gradients is the main one.
use Rattle.std.proofs.Common.{◌≡◌, ◌∙◌, sym}
use Rattle.alf_spec.specs.Classes.{hv, dd, diagonal, class_of_sums}
use Rattle.alf_direction.proofs.Gradients.{main_diagonal, main_straight}
use Rattle.alf_direction.proofs.direction.class_of_sums.Goals as goal

pub returns-then-is_diagonal : goal.returns-then-is_diagonal
unfolding class_of_sums
returns-then-is_diagonal c =
    let tested : c.is_diagonal.result ≡ diagonal (dd c.args.s) (hv c.args.s) =
    rw (← c.larger-hv.ensures, ← c.larger-dd.ensures) c.is_diagonal.ensures in
    let m = main_diagonal _ (sym tested ∙ c.if-is_diagonal.true) in
    cc (m.0, m.1)

pub returns-else-is_diagonal : goal.returns-else-is_diagonal
unfolding class_of_sums
returns-else-is_diagonal c =
    let tested : c.is_diagonal.result ≡ diagonal (dd c.args.s) (hv c.args.s) =
    rw (← c.larger-hv.ensures, ← c.larger-dd.ensures) c.is_diagonal.ensures in
    let m = main_straight _ (sym tested ∙ c.if-is_diagonal.false) in
    cc (m.0, m.1)
