-- A row of fields one by one: where the next field of a row begins. Assumes nothing.
use mathlib.Core.Path.{◌≡◌, refl, ap}
use mathlib.Core.List.{List, [], ◌∷◌}
use Prim.Native.Nat.{ℕ, zero, suc, ◌+◌, ◌<◌}
use native.Mathlib.Omega.{arith}
use lib.ListN.{length, drop}
use lib.Seq.{drop-nil}
use Rattle.alf_bank.specs.Reading.{length_of, fields}

fields_skip : (row : List ℕ) (k : ℕ) → fields row k ≡ fields (drop k row) 0
unfolding fields
fields_skip [] k = rw drop-nil
fields_skip (b ∷ row) zero = refl
fields_skip (b ∷ row) (suc k) = fields_skip row k

pub fields_none : fields [] 0 ≡ []
unfolding fields
fields_none = refl

pub fields_step : (row : List ℕ) → 0 < length row → fields row 0 ≡ row ∷ fields (drop (3 + length_of row) row) 0
unfolding fields
fields_step [] h = absurd (omega arith)
fields_step (b ∷ row) h =
    let e : 3 + length_of (b ∷ row) ≡ suc (2 + length_of (b ∷ row)) = omega arith in
    rw e (ap (λ (l : List (List ℕ)). (b ∷ row) ∷ l) (fields_skip row (2 + length_of (b ∷ row))))
