-- A call through the C interface. Assumes nothing.
use Rattle.std.specs.Prelude.{Bool, ◌&&◌, cond, ℕ, ltb}

-- the byte that the isolation test writes: 1 where the region is isolated, else 0
abbrev pub isolated_byte : Bool → ℕ
isolated_byte isolated = cond isolated 1 0

-- the lowest fault where the list for the causes has no room for them, and the rest of the input has the number n: 5, unless n is 1 to 4
abbrev pub without_room : ℕ → ℕ
without_room n = cond (ltb 0 n && ltb n 5) n 5
