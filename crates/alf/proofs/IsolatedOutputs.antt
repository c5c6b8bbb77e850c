-- The isolation claim, of the operations themselves: two runs of one operation that it accepts, which differ only outside an isolated
-- region, end with outputs that are equal inside. Assumes nothing.
use mathlib.Core.Path.{◌≡◌, sym, ap, ◌∙◌}
use mathlib.Core.Bool.{true}
use mathlib.Core.List.{List}
use Prim.Native.Nat.{ℕ, ◌<◌}
use lib.ListN.{length, get_or}
use Rattle.alf_spec.specs.Input.{Operation, Input}
use Rattle.alf_spec.specs.Process.{result_of}
use Rattle.alf_spec.specs.Faults.{fault}
use Rattle.alf_spec.specs.Isolation.{output_inside}
use Rattle.alf_spec.proofs.TwoRuns.{TwoRuns, isolation, result-length}
use Rattle.alf_spec.specs.Runs.{Ran}

-- what an accepted run leaves is the result
accepted-result : (op : Operation) (i : Input) (n : ℕ) (old new : List ℕ) → Ran op i n old new → fault op i ≡ 0 → new ≡ result_of op i
accepted-result op i n old new ran ok = rw ok at ran.1

-- `classes`, `luma`, `chroma` and `cross_component` promise `Ran`, each of its own operation, and so do the functions of the C interface; n
-- and n' are the numbers that two runs answer, i and j are what they are given, and `TwoRuns` says that both are accepted, and in what they
-- are alike
pub outputs_equal : (op : Operation) (region : List ℕ) (i j : Input) → TwoRuns op region i j
    → (n n' : ℕ) (old new old' new' : List ℕ) → Ran op i n old new → Ran op j n' old' new'
    → (k : ℕ) → k < length new → output_inside op i.layout region k ≡ true → get_or new k 0 ≡ get_or new' k 0
outputs_equal op region i j runs n n' old new old' new' ran ran' k h inside =
    let first = accepted-result op i n old new ran runs.first_accepted in
    let second = accepted-result op j n' old' new' ran' runs.second_accepted in
    ap (λ (xs : List ℕ). get_or xs k 0) first
    ∙ isolation op region i j runs k (rw (← (result-length op i runs.first_accepted), ← first) h) inside
    ∙ sym (ap (λ (xs : List ℕ). get_or xs k 0) second)
