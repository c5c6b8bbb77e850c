-- Laws that the proofs of this crate cite.
pub mod RowReads
pub mod FilterNumbers
pub mod TapRows
pub mod SpreadFilters
pub mod SpreadRows
pub mod PieceSamples
pub mod BlockRows
