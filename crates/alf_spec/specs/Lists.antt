-- Words for lists and tests: every, sum, table, and a plane of which a part is written anew. Assumes nothing.
use Rattle.std.specs.Prelude.{Bool, true, false, not, ◌&&◌, ◌||◌, cond, List, [], ◌∷◌, ℕ, zero, suc, ◌+◌, ℤ, pos, ◌+ℤ◌, eqb, leb}

-- lo ≤ n ≤ hi
abbrev pub within : ℕ → ℕ → ℕ → Bool
within lo hi n = leb lo n && leb n hi

-- a implies b
abbrev pub implies : Bool → Bool → Bool
implies a b = not a || b

-- the test passes at 0, .., n - 1
unfoldable pub all_below : ℕ → (ℕ → Bool) → Bool
all_below zero test = true
all_below (suc n) test = all_below n test && test n

-- the test passes at each entry and its place; the first place is k
unfoldable pub every_from : {A : Type 0} → ℕ → (ℕ → A → Bool) → List A → Bool
every_from k test [] = true
every_from k test (x ∷ xs) = test k x && every_from (suc k) test xs

-- the test passes at each entry
abbrev pub every : {A : Type 0} → (A → Bool) → List A → Bool
every test list = every_from 0 (λ k x. test x) list

-- a stands in the list
unfoldable pub elem : ℕ → List ℕ → Bool
elem a [] = false
elem a (x ∷ xs) = eqb a x || elem a xs

-- f 0 + .. + f (n - 1)
unfoldable pub sum_below : ℕ → (ℕ → ℕ) → ℕ
sum_below zero f = 0
sum_below (suc n) f = sum_below n f + f n

-- f 0 + .. + f (n - 1), a sum of integers
unfoldable pub sum_below_ℤ : ℕ → (ℕ → ℤ) → ℤ
sum_below_ℤ zero f = pos 0
sum_below_ℤ (suc n) f = sum_below_ℤ n f +ℤ f n

-- f 0, .., f (n - 1)
unfoldable pub tabulate : ℕ → (ℕ → ℕ) → List ℕ
tabulate zero f = []
tabulate (suc n) f = f zero ∷ tabulate n (λ k. f (suc k))

-- the list with the entries at which the test passes written anew: value k at place k
unfoldable pub painted : List ℕ → (ℕ → Bool) → (ℕ → ℕ) → List ℕ
painted [] test value = []
painted (x ∷ xs) test value = cond (test zero) (value zero) x ∷ painted xs (λ k. test (suc k)) (λ k. value (suc k))
