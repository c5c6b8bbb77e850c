-- Parts of a list, and of a plane that is a list, as tests of an index: what a loop has written so far. Assumes nothing.
use Rattle.std.specs.Prelude.{Bool, ◌&&◌, ℕ, ◌+◌, ◌/◌, ◌%◌, leb, ltb}

-- k is one of the n places from `from` on
unfoldable pub between : ℕ → ℕ → ℕ → Bool
between from n k = leb from k && ltb k (from + n)

-- in a plane of so many columns, the place k lies in the columns from x to x' and in the rows from y to y', the last ones not counted
unfoldable pub in_rect : ℕ → ℕ → ℕ → ℕ → ℕ → ℕ → Bool
in_rect columns x x' y y' k =
    (leb x (k % columns) && ltb (k % columns) x') && (leb y (k / columns) && ltb (k / columns) y')
