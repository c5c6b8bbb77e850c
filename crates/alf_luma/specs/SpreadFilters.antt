-- The luma filters of a row of blocks, spread over its columns. Assumes nothing.
use Rattle.std.specs.Prelude.{◌≡◌, cond, List, ℕ, ◌+◌, ◌-◌, ◌*◌, ◌/◌, ◌%◌, ◌<◌, ℤ, pos, ltb, length, get_or}
use Rattle.alf_spec.specs.Luma.{tap_order}

-- ---- the tap orders as a table: 24 entries for each transpose

-- which of a filter's 24 numbers is number j in that order: idx of (1460) to (1463), for its coefficients and for its clips
unfoldable pub tap_index : ℕ → ℕ → ℕ
tap_index transpose j = cond (ltb j 12) (tap_order transpose j) (12 + tap_order transpose (j - 12))

-- entry k of the table
abbrev pub tap_index_at : ℕ → ℕ
tap_index_at k = tap_index (k / 24) (k % 24)

-- the whole table
pub record TapOrders (orders : List ℕ) : Type 0 where
  pub count : length orders ≡ 96
  pub entries : (transpose j : ℕ) → transpose < 4 → j < 24 → get_or orders (24 * transpose + j) 0 ≡ tap_index transpose j

-- ---- spread over the columns, 128 for each number

-- number k of the spread list, from a filter that begins at `from`, in the order that begins at index `at` of the table
abbrev pub number_from : List ℤ → ℕ → List ℕ → ℕ → ℕ → ℤ
number_from filters from orders at k = get_or filters (from + get_or orders (at + k / 128) 0) (pos 0)

-- number k of the spread list, from the filter of a class number: class + 32 × transpose
abbrev pub class_from : List ℤ → List ℕ → ℕ → ℕ → ℤ
class_from filters orders number k = number_from filters (24 * (number % 32)) orders (24 * (number / 32)) k

-- number k of the spread list, from the filters of a row of blocks, whose class numbers begin at index `at` of a map
abbrev pub spread_from : List ℤ → List ℕ → List ℕ → ℕ → ℕ → ℤ
spread_from filters orders map at k = class_from filters orders (get_or map (at + k % 128 / 4) 0) k

-- the class numbers of so many blocks
abbrev pub ClassNumbers : List ℕ → ℕ → ℕ → Type 0
ClassNumbers map at count = (b : ℕ) → b < count → (get_or map (at + b) 0 % 32 < 25) × (get_or map (at + b) 0 / 32 < 4)
