-- The filters of a CTB as code has them, in one list: what the kernels filter with. Assumes nothing.
use Rattle.std.specs.Prelude.{◌≡◌, List, ℕ, ◌+◌, ◌*◌, ◌<◌, ℤ, pos, length, get_or}
use Rattle.alf_spec.specs.declared.Ctb.{Ctb}
use Rattle.alf_spec.specs.Input.{Input}
use Rattle.alf_spec.specs.Parameters.{chroma_aps, chroma_alternative, chroma_coeff, chroma_clip}
use Rattle.alf_spec.specs.Luma.{luma_f, luma_c}
use Rattle.alf_math.specs.Integers.{CoeffRange, ClipRange}

-- ---- luma: 24 numbers for each of 25 classes, 12 coefficients and 12 clips

-- the luma filters are those of the CTB c
pub record LumaFilters (i : Input) (c : Ctb) (filters : List ℤ) : Type 0 where
  pub coefficients : (filter j : ℕ) → filter < 25 → j < 12 → get_or filters (24 * filter + j) (pos 0) ≡ luma_f i c filter j
  pub clips : (filter j : ℕ) → filter < 25 → j < 12 → get_or filters (24 * filter + (12 + j)) (pos 0) ≡ luma_c i c filter j

-- the numbers of the luma filters are in their ranges
pub record FilterNumbers (filters : List ℤ) : Type 0 where
  pub count : length filters ≡ 600
  pub coefficients : (filter j : ℕ) → filter < 25 → j < 12 → CoeffRange (get_or filters (24 * filter + j) (pos 0))
  pub clips : (filter j : ℕ) → filter < 25 → j < 12 → ClipRange (get_or filters (24 * filter + (12 + j)) (pos 0))

-- ---- chroma: 6 coefficients, and then 6 clips

-- (1506), (1507): the filter of the CTB c for a component
pub record ChromaFilter (i : Input) (c : Ctb) (component : ℕ) (filters : List ℤ) : Type 0 where
  pub coefficients : (j : ℕ) → j < 6 → get_or filters j (pos 0) ≡ chroma_coeff i (chroma_aps i c) (chroma_alternative i c component) j
  pub clips : (j : ℕ) → j < 6 → get_or filters (6 + j) (pos 0) ≡ chroma_clip i (chroma_aps i c) (chroma_alternative i c component) j
