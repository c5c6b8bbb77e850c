-- The tables that steer the filters: slice parameters, CTB parameters, filter bank and fixed tables (01: slice row, CTB choices, bank).
-- Assumes nothing.
use Rattle.std.specs.Prelude.{ℕ, ◌+◌, ◌*◌, ℤ, pos, get_or}
use Rattle.alf_spec.specs.declared.Ctb.{Ctb}
use Rattle.alf_spec.specs.Input.{Input}
use Rattle.alf_spec.specs.Geometry.{address}
use Rattle.alf_spec.specs.Boundary.{slice_of}

module _ (i : Input) (c : Ctb) where
  -- eight numbers a CTB: the flags of luma, Cb and Cr; the luma set; the alternatives of Cb and Cr; the cross-component indices of Cb and
  -- Cr
  unfoldable pub ctb_param : ℕ → ℕ
  ctb_param n = get_or i.ctb_params (8 * address i.layout c + n) 0

  -- alf_ctb_flag of luma
  abbrev pub luma_flag : ℕ
  luma_flag = ctb_param 0

  -- alf_ctb_flag of Cb and Cr
  abbrev pub chroma_flag : ℕ → ℕ
  chroma_flag component = ctb_param (1 + component)

  -- AlfCtbFiltSetIdxY
  abbrev pub luma_set : ℕ
  luma_set = ctb_param 3

  -- alf_ctb_filter_alt_idx
  abbrev pub chroma_alternative : ℕ → ℕ
  chroma_alternative component = ctb_param (4 + component)

  -- alf_ctb_cc_cb_idc, alf_ctb_cc_cr_idc: 0 is off
  abbrev pub cross_index : ℕ → ℕ
  cross_index component = ctb_param (6 + component)

  -- eleven numbers a slice: how many luma APSs, and APS ids (01: places), seven for luma, one for chroma, two for cross-component
  unfoldable pub slice_param : ℕ → ℕ
  slice_param n = get_or i.slice_params (11 * slice_of i.layout c + n) 0

  -- 01: count 0 to 7 of luma places
  abbrev pub luma_aps_count : ℕ
  luma_aps_count = slice_param 0

  -- slice_alf_aps_id_luma[ n ]
  abbrev pub luma_aps : ℕ → ℕ
  luma_aps n = slice_param (1 + n)

  -- slice_alf_aps_id_chroma
  abbrev pub chroma_aps : ℕ
  chroma_aps = slice_param 8

  -- slice_cc_alf_cb_aps_id, slice_cc_alf_cr_aps_id
  abbrev pub cross_aps : ℕ → ℕ
  cross_aps component = slice_param (9 + component)

-- coefficient j of a cross-component filter of a component, among the numbers of its APS
abbrev pub cross_number : ℕ → ℕ → ℕ → ℕ
cross_number component filter j = 696 + 28 * component + 7 * filter + j

-- 752 numbers an APS: 25 luma filters of 12 coefficients and 12 clips, 8 chroma alternatives of 6 and 6, 4 cross-component filters of 7 for
-- Cb, and 4 for Cr
module _ (i : Input) (aps : ℕ) where
  -- number n of an APS
  unfoldable pub bank_number : ℕ → ℤ
  bank_number n = get_or i.bank (752 * aps + n) (pos 0)

  -- AlfCoeffL[ aps ][ filter ][ j ]
  abbrev pub luma_coeff : ℕ → ℕ → ℤ
  luma_coeff filter j = bank_number (24 * filter + j)

  -- AlfClipL[ aps ][ filter ][ j ]
  abbrev pub luma_clip : ℕ → ℕ → ℤ
  luma_clip filter j = bank_number (24 * filter + 12 + j)

  -- AlfCoeffC[ aps ][ alternative ][ j ]
  abbrev pub chroma_coeff : ℕ → ℕ → ℤ
  chroma_coeff alternative j = bank_number (600 + 12 * alternative + j)

  -- AlfClipC[ aps ][ alternative ][ j ]
  abbrev pub chroma_clip : ℕ → ℕ → ℤ
  chroma_clip alternative j = bank_number (600 + 12 * alternative + 6 + j)

  -- CcAlfApsCoeffCb, CcAlfApsCoeffCr
  abbrev pub cross_coeff : ℕ → ℕ → ℕ → ℤ
  cross_coeff component filter j = bank_number (696 + 28 * component + 7 * filter + j)

-- AlfFixFiltCoeff[ AlfClassToFiltMap[ set ][ class ] ][ j ]
unfoldable pub fixed_coeff : Input → ℕ → ℕ → ℕ → ℤ
fixed_coeff i set filter j = get_or i.fixed_filters (12 * get_or i.fixed_map (25 * set + filter) 0 + j) (pos 0)
