-- Laws that the proofs of this crate, and of those above it, cite.
pub mod DifferenceLists
pub mod ColumnSums
pub mod WindowSums
pub mod PieceRows
pub mod PieceClasses
