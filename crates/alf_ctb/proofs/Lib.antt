-- Laws that the proofs of this crate, and of the plane's above it, cite.
pub mod PieceFilters
pub mod Ratios
pub mod TableFilters
