-- The cross-component filters of a bank file that have a coefficient which H.266 can't send (02, card 6: "a line for each such filter, in
-- file order: place, component, filter"): as the fields of the file have them, and as a program gets them that reads the file's bank and
-- asks for one after the other. Assumes nothing.
use Rattle.std.specs.Prelude.{Bool, not, ◌&&◌, cond, List, [], ◌∷◌, ℕ, zero, suc, eqb, ℤ, drop, Option, Some, None}
use Rattle.alf_spec.specs.Lists.{all_below}
use Rattle.alf_spec.specs.Faults.{cross_coeff_valid}
use Rattle.alf_bank.specs.declared.FilterId.{FilterId}
use Rattle.alf_bank.specs.Reading.{tag_of, id_of, coeff_at, fields}
use Rattle.alf_cross_coeffs.specs.declared.CrossFilter.{CrossFilter}
use Rattle.alf_cross_coeffs.specs.declared.Offender.{Offender}
use Rattle.alf_cross_coeffs.specs.Offenders.{next_offender, offender_at}

-- ---- as the file has them

-- a field of tag 4, not each of whose seven coefficients is one that H.266 can send
unfoldable pub offending : List ℕ → Bool
offending field = eqb (tag_of field) 4 && not (all_below 7 (λ j. cross_coeff_valid (coeff_at field j)))

-- "place, component, filter" of a cross-component filter
abbrev pub cross_of : FilterId → CrossFilter
cross_of i = record { aps = i.aps; component = i.component; filter = i.filter }

-- the filters of those among some fields, in the order of the fields
unfoldable pub offenders_among : List (List ℕ) → List CrossFilter
offenders_among [] = []
offenders_among (f ∷ fs) = cond (offending f) (cross_of (id_of f) ∷ offenders_among fs) (offenders_among fs)

-- of the fields after tag 1
unfoldable pub offending_filters : List ℕ → List CrossFilter
offending_filters file = offenders_among (fields (drop 4 file) 0)

-- ---- as a program gets them

-- the filter that was found, and those that come when the program goes on behind it
abbrev pub and_on : Option Offender → (ℕ → List CrossFilter) → List CrossFilter
and_on (Some o) later = o.filter ∷ later o.next
and_on None later = []

-- those of a program that asks for the next one from place k on, then from behind each, until there is none or it has asked n times
unfoldable pub found_in_turn : ℕ → List ℤ → ℕ → List CrossFilter
found_in_turn zero bank k = []
found_in_turn (suc n) bank k = and_on (offender_at (next_offender bank k)) (found_in_turn n bank)
