-- Laws that the proofs of this crate, and of those above it, cite.
pub mod Clips
pub mod CtbAddresses
pub mod Grids
pub mod Magnitude
pub mod TapByTap
