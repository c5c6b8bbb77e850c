-- What the contracts of this crate, and of the kernels above it, say beside the definitions of `alf_spec`.
pub mod Pieces
pub mod Copies
pub mod CtbRegions
pub mod Walks
