use Rattle.std.proofs.Common.{ℕ, Bool, true}
use Rattle.alf_lists.proofs.Painted.{Paint}
use Rattle.alf_spec.specs.Geometry.{class_plane}
use Rattle.alf_spec.specs.Process.{class_at}
use Rattle.alf_pieces.specs.CtbRegions.{before_ctb_if}
use Rattle.alf_class_map.proofs.map.class_map.Given as goal

-- every CTB is classified
abbrev pub every : ℕ → Bool
every k = true

-- those before address k are
abbrev pub invariant-loop-k : goal.invariant-loop-k
invariant-loop-k l = Paint l.fn.map (before_ctb_if l.layout (class_plane l.layout) every l.k) (class_at l.layout l.luma) l.map
