-- The grid's numbers are those of each layout of this picture. Assumes nothing.
use Rattle.std.proofs.Common.{refl}
use Rattle.alf_validate_layout.proofs.Layouts.{lengths_by_grid}
use Rattle.alf_validate_layout.proofs.lengths.layout_lengths_valid.Goals as goal

pub returns-clause-part : goal.returns-clause-part
returns-clause-part c l e t u s m a =
    rw (lengths_by_grid l c.args.grid (rw e c.requires), e, t, u, s, m, a, ← c.layout.view_is) refl

pub returns-clause-own : goal.returns-clause-own
returns-clause-own c = returns-clause-part c _ refl refl refl refl refl refl
