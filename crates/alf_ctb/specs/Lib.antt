-- What the contracts of this crate, and of the plane's above it, say beside the definitions of `alf_spec`.
pub mod Filters
pub mod Tables
pub mod FilterWork
