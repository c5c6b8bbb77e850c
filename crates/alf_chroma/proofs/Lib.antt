-- Laws that the proofs of this crate cite.
pub mod Spreads
pub mod PieceRows
pub mod PieceSamples
