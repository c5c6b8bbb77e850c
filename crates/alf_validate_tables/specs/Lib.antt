-- What the contracts of this crate, and of those above it, say beside the definitions of `alf_spec`.
pub mod Tables
