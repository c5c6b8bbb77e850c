-- The definitions by tag, in the case that a test has found, and what holds of each tag. Assumes nothing.
use mathlib.Core.Path.{◌≡◌, refl}
use mathlib.Core.Logic.{◌≢◌}
use mathlib.Core.Bool.{Bool, true, false, ◌&&◌}
use mathlib.Core.List.{List}
use Prim.Native.Nat.{ℕ}
use borrow.Author.Tests.{eq-eqb, ne_eqb}
use lib.Dec.{ltb, eqb}
use lib.ListN.{length, get_or}
use Rattle.alf_bank.specs.declared.FilterId.{FilterId}
use Rattle.alf_bank.specs.Filters.{shape_of, leads_of, id_valid}
use Rattle.alf_bank.specs.Reading.{id_of}

-- there are as many leading numbers as the shape says
pub leads_length : (i : FilterId) → length (leads_of i) ≡ (shape_of i.tag).leads
unfolding leads_of shape_of
leads_length i = by_test (eqb i.tag 2) (eqb i.tag 3) refl refl
  where
    by_test : (a b : Bool) → eqb i.tag 2 ≡ a → eqb i.tag 3 ≡ b → length (leads_of i) ≡ (shape_of i.tag).leads
    by_test true b p q = simp p
    by_test false true p q = simp (p, q)
    by_test false false p q = simp (p, q)

-- ---- the filter that a field names

module _ (f : List ℕ) where
  -- where its value has two leading numbers, and where it has three
  abbrev pub id_of_two : FilterId
  id_of_two = record { tag = get_or f 0 0; aps = get_or f 3 0; component = 0; filter = get_or f 4 0 }

  abbrev pub id_of_three : FilterId
  id_of_three = record { tag = get_or f 0 0; aps = get_or f 3 0; component = get_or f 4 0; filter = get_or f 5 0 }

  pub id_luma : get_or f 0 0 ≡ 2 → id_of_two ≡ id_of f
  unfolding id_of
  id_luma e = simp (eq-eqb _ _ e)

  pub id_chroma : get_or f 0 0 ≢ 2 → get_or f 0 0 ≡ 3 → id_of_two ≡ id_of f
  unfolding id_of
  id_chroma n e = simp (ne_eqb _ _ n, eq-eqb _ _ e)

  pub id_cross : get_or f 0 0 ≢ 2 → get_or f 0 0 ≢ 3 → id_of_three ≡ id_of f
  unfolding id_of
  id_cross n m = simp (ne_eqb _ _ n, ne_eqb _ _ m)

-- ---- whether its leading numbers are listed

module _ (i : FilterId) where
  pub valid_luma : i.tag ≡ 2 → (ltb i.aps 8 && ltb i.filter 25) ≡ id_valid i
  unfolding id_valid
  valid_luma e = simp (eq-eqb _ _ e)

  pub valid_chroma : i.tag ≢ 2 → i.tag ≡ 3 → (ltb i.aps 8 && ltb i.filter 8) ≡ id_valid i
  unfolding id_valid
  valid_chroma n e = simp (ne_eqb _ _ n, eq-eqb _ _ e)

  pub valid_cross : i.tag ≢ 2 → i.tag ≢ 3 → (ltb i.aps 8 && (ltb i.component 2 && ltb i.filter 4)) ≡ id_valid i
  unfolding id_valid
  valid_cross n m = simp (ne_eqb _ _ n, ne_eqb _ _ m)
