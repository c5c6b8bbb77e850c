-- Laws that the proofs of this crate, and of those above it, cite.
pub mod PieceEnds
pub mod PieceScan
pub mod PieceClips
pub mod PieceReads
pub mod PieceFacts
pub mod CopyReads
pub mod CopyRows
pub mod CopySamples
pub mod CopyRooms
pub mod PieceWalk
pub mod CtbPieces
pub mod CopyHolds
pub mod ScaledPieces
pub mod CtbRegions
pub mod CtbWalks
