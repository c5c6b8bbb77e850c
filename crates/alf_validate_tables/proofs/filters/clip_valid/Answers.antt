-- 1 << BitDepth is at most 4096. Assumes nothing.
use Rattle.std.proofs.Common.{to_z-of_z}
use Rattle.alf_spec.specs.Faults.{clip_valid}
use Rattle.alf_validate_tables.proofs.BitDepth.{one_shifted_small, clip_limit}
use Rattle.alf_validate_tables.proofs.filters.clip_valid.Goals as goal

pub overflow_cast-result-2 : goal.overflow_cast-result-2
overflow_cast-result-2 c = record { sfits = one_shifted_small _ c.requires }

pub returns : goal.returns
unfolding clip_valid
returns c = rw (to_z-of_z c.ranges.clip, clip_limit _ c.requires)
