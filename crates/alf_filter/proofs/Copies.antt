-- A plane copied over another of its size. Assumes nothing.
use Rattle.std.proofs.Common.{◌≡◌, sym, ap, ◌∙◌, List, ℕ, ◌+◌, ◌-◌, length, get_or, arith}
use lib.Seq.{ext_get_or}
use Rattle.alf_spec.specs.Lists.{painted}
use Rattle.alf_lists.specs.Regions.{between}
use Rattle.alf_pieces.specs.Copies.{run_at}
use Rattle.alf_lists.proofs.Painted.{paint_of, paint_in}
use Rattle.alf_lists.proofs.Regions.{in_run}

pub plane_copied : (plane old : List ℕ) {new : List ℕ} → length plane ≡ length old
    → new ≡ painted old (between 0 (length plane)) (run_at plane 0 0) → new ≡ plane
unfolding run_at
plane_copied plane old {new} same e =
    let P = paint_of {xs = old} e in
    ext_get_or 0 new plane (P.len ∙ sym same) (λ k h.
    let place : 0 + (k - 0) ≡ k = omega arith in
    paint_in P k (omega (arith, P.len)) (in_run 0 (length plane) k (omega (arith, P.len))) ∙ ap (λ (n : ℕ). get_or plane n 0) place)
