-- What the contracts of this crate say beside the definitions of `alf_spec`.
pub mod Offenders
