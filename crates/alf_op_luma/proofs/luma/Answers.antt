-- What it promises is what the filter of a picture promises at its filter, of an input with the same parts. The step is named, so that
-- another filter is refused where the two sides differ, and another part of the input where the inputs are to be the same.
use Rattle.std.proofs.Common.{◌≡◌, ℕ, List, rules}
use Rattle.alf_spec.specs.Input.{Input, luma}
use Rattle.alf_spec.specs.Runs.{Ran}
use Rattle.alf_op_luma.proofs.luma.Goals as goal

ran_same : {i j : Input} (answer : ℕ) (old new : List ℕ) → Ran luma i answer old new → i ≡ j → Ran luma j answer old new
ran_same answer old new ran same = rw same at ran

pub returns : goal.returns
returns c = ran_same _ _ _ c.filter_picture.ensures (search rules)
