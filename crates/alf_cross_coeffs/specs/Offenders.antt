-- The cross-component filters of a bank in file order, and those among them that H.266 can't send (02, card 6: "a line
-- for each such filter, in file order"). Assumes nothing.
use Rattle.std.specs.Prelude.{Bool, cond, List, ℕ, zero, suc, ◌-◌, ◌/◌, ◌%◌, ltb, ℤ, Option, Some, None}
use Rattle.alf_spec.specs.Faults.{cross_filter_valid}
use Rattle.alf_cross_coeffs.specs.declared.CrossFilter.{CrossFilter}
use Rattle.alf_cross_coeffs.specs.declared.Offender.{Offender}

-- the filter at place n of 64, by APS id, component, filter: an APS has eight, of which the first four are Cb's
abbrev pub cross_filter_at : ℕ → CrossFilter
cross_filter_at n = record { aps = n / 8; component = n % 8 / 4; filter = n % 4 }

-- each of its coefficients is one that H.266 can send
unfoldable pub valid_at : List ℤ → ℕ → Bool
valid_at bank n = cross_filter_valid bank (n / 8) (n % 8 / 4) (n % 4)

-- the first of n places, from place k on, at which that fails; the place behind them where it fails at none
unfoldable pub first_offender : List ℤ → ℕ → ℕ → ℕ
first_offender bank zero k = k
first_offender bank (suc n) k = cond (valid_at bank k) (first_offender bank n (suc k)) k

-- the first of all places from place k on; 64 or more where there is none
abbrev pub next_offender : List ℤ → ℕ → ℕ
next_offender bank k = first_offender bank (64 - k) k

-- what a search that ends at place n has found: the place, where it is one of the 64
abbrev pub found_at : ℕ → Option ℕ
found_at n = cond (ltb n 64) (Some n) None

-- its answer: the filter there, and where to go on behind it
unfoldable pub offender_at : ℕ → Option Offender
offender_at n = cond (ltb n 64) (Some (record { filter = cross_filter_at n; next = suc n })) None
