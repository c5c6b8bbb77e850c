-- The filters of a bank in the order of a bank file (02, card 2: they "rise by tag, then by the value's leading numbers"): their names,
-- the shape of their values, and where their numbers stand in a bank in memory. Assumes nothing.
use Rattle.std.specs.Prelude.{Bool, ◌&&◌, cond, List, [], ◌∷◌, ℕ, zero, suc, ◌+◌, ◌-◌, ◌*◌, ◌/◌, ◌%◌, eqb, ltb}
use Rattle.alf_bank.specs.declared.FilterId.{FilterId}
use Rattle.alf_bank.specs.declared.FilterShape.{FilterShape}

-- f 0, .., f (n - 1)
unfoldable pub table : {A : Type 0} → ℕ → (ℕ → A) → List A
table zero f = []
table (suc n) f = f zero ∷ table n (λ k. f (suc k))

-- by tag: 2 is a luma filter, 3 a chroma alternative, 4 (and any other here) a cross-component filter
abbrev pub by_tag : {A : Type 0} → ℕ → A → A → A → A
by_tag tag luma chroma cross = cond (eqb tag 2) luma (cond (eqb tag 3) chroma cross)

-- "place, filter, 12 coefficients, 12 clips", "place, alternative, 6 coefficients, 6 clips", "place, component, filter, 7 coefficients"
unfoldable pub shape_of : ℕ → FilterShape
shape_of tag =
    by_tag tag
    (record { leads = 2; coeffs = 12; clips = 12 })
    (record { leads = 2; coeffs = 6; clips = 6 })
    (record { leads = 3; coeffs = 7; clips = 0 })

-- a coefficient takes one byte and a clip two: 38, 20 and 10 bytes
abbrev pub size_of : FilterShape → ℕ
size_of s = s.leads + s.coeffs + 2 * s.clips

-- how many numbers a filter has
abbrev pub count_of : FilterShape → ℕ
count_of s = s.coeffs + s.clips

-- the leading numbers of a value
unfoldable pub leads_of : FilterId → List ℕ
leads_of i = by_tag i.tag (i.aps ∷ i.filter ∷ []) (i.aps ∷ i.filter ∷ []) (i.aps ∷ i.component ∷ i.filter ∷ [])

-- leading numbers that are listed: places 0 to 7; filters 0 to 24; alternatives 0 to 7; component 0 or 1 and filters 0 to 3
unfoldable pub id_valid : FilterId → Bool
id_valid i =
    ltb i.aps 8
    && by_tag i.tag (ltb i.filter 25) (ltb i.filter 8) (ltb i.component 2 && ltb i.filter 4)

-- a filter's place in file order: 200 luma filters, 64 chroma alternatives, 64 cross-component filters
unfoldable pub order_of : FilterId → ℕ
order_of i =
    by_tag i.tag
    (25 * i.aps + i.filter)
    (200 + (8 * i.aps + i.filter))
    (264 + (8 * i.aps + (4 * i.component + i.filter)))

-- the filter at place k of file order
unfoldable pub filter_at : ℕ → FilterId
filter_at k =
    cond (ltb k 200) (record { tag = 2; aps = k / 25; component = 0; filter = k % 25 })
    (cond (ltb k 264) (record { tag = 3; aps = (k - 200) / 8; component = 0; filter = (k - 200) % 8 })
    (record { tag = 4; aps = (k - 264) / 8; component = (k - 264) % 8 / 4; filter = (k - 264) % 4 }))

-- where a filter's numbers begin in a bank in memory: 752 numbers an APS (see `Parameters` of alf_spec)
unfoldable pub start_of : FilterId → ℕ
start_of i =
    752 * i.aps
    + by_tag i.tag (24 * i.filter) (600 + 12 * i.filter) (696 + (28 * i.component + 7 * i.filter))
