-- Laws that the proofs of this crate cite.
pub mod TapSums
pub mod SplitColumns
pub mod PieceRows
pub mod PieceSamples
