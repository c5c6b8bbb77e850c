-- What the claims of this crate say beside the definitions of `alf_bank` and `alf_cross_coeffs`.
pub mod OffendingFields
