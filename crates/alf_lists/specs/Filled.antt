-- Lists of which a part is written anew, of every kind of entry: `painted` of `alf_spec`, entry by entry. Assumes nothing.
use Rattle.std.specs.Prelude.{◌≡◌, Bool, cond, List, ℕ, ◌<◌, length, get_or}

-- ys is xs with the entries at which the test passes written anew; past the end stands d
pub record Filled {A : Type 0} (d : A) (xs : List A) (test : ℕ → Bool) (value : ℕ → A) (ys : List A) : Type 0 where
  pub len : length ys ≡ length xs
  pub at : (k : ℕ) → k < length xs → get_or ys k d ≡ cond (test k) (value k) (get_or xs k d)

-- one entry at each place
abbrev pub same : {A : Type 0} → A → ℕ → A
same v k = v
