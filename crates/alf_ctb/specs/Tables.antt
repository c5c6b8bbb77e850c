-- What the tables of a CTB's filter say, for each of the filters. Assumes nothing.
use Prim.{Unit}
use Rattle.std.specs.Prelude.{ℕ, ◌+◌, ◌≤◌, ◌<◌, List, ℤ}
use Rattle.alf_spec.specs.Input.{Input}
use Rattle.alf_params.specs.Tables.{ctb_number, FixedTables, FixedOf}
use Rattle.alf_spec.specs.declared.Filter.{Filter}
use Rattle.alf_spec.specs.declared.Filter.TheVariants.{Luma, Chroma, CrossComponent}

-- its component, if it has one, is 0 (Cb) or 1 (Cr)
abbrev pub ComponentOf : Filter → Type 0
ComponentOf Luma = Unit {0}
ComponentOf (Chroma component) = component ≤ 1
ComponentOf (CrossComponent component) = component ≤ 1

-- luma alone is given the fixed tables
abbrev pub FixedGiven : Filter → ℕ → List ℤ → List ℕ → Type 0
FixedGiven Luma depth fixed_filters fixed_map = FixedTables depth fixed_filters fixed_map
FixedGiven (Chroma component) depth fixed_filters fixed_map = Unit {0}
FixedGiven (CrossComponent component) depth fixed_filters fixed_map = Unit {0}

-- and they are the input's
abbrev pub FixedSame : Filter → Input → ℕ → List ℤ → List ℕ → Type 0
FixedSame Luma i depth fixed_filters fixed_map = FixedOf i depth fixed_filters fixed_map
FixedSame (Chroma component) i depth fixed_filters fixed_map = Unit {0}
FixedSame (CrossComponent component) i depth fixed_filters fixed_map = Unit {0}

-- the index of a cross-component filter, which counts from 1, is not 0
abbrev pub Switched : Filter → List ℕ → ℕ → Type 0
Switched Luma ctb_params k = Unit {0}
Switched (Chroma component) ctb_params k = Unit {0}
Switched (CrossComponent component) ctb_params k = 0 < ctb_number ctb_params k (6 + component)
