-- What the contracts of the C interface say beside the definitions of `alf_spec`.
pub mod Calls
