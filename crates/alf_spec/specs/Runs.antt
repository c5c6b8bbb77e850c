-- A run of an operation that has an output. Assumes nothing.
use Rattle.std.specs.Prelude.{◌≡◌, List, ℕ}
use Rattle.alf_spec.specs.Input.{Operation, Input}
use Rattle.alf_spec.specs.Process.{result_of}
use Rattle.alf_spec.specs.Faults.{fault}
use Rattle.alf_spec.specs.Answers.{kept}

-- what it promises, for good and bad input: its answer's number is that of the lowest cause that applies, 0 where none does; and its output
-- in the end is the operation's result where the input is accepted, else what stood there
abbrev pub Ran : Operation → Input → ℕ → List ℕ → List ℕ → Type 0
Ran op i n old new = (n ≡ fault op i) × (new ≡ kept (fault op i) (result_of op i) old)
