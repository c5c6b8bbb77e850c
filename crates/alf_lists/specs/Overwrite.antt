-- A list with another written over a part of it. Assumes nothing.
use Rattle.std.specs.Prelude.{List, ◌++◌, ℕ, ◌+◌, length, take, drop}

-- `old` with xs in the places from `at` on; the rest stays
unfoldable pub overwrite : {A : Type 0} → ℕ → List A → List A → List A
overwrite at xs old = take at old ++ (xs ++ drop (at + length xs) old)
