-- Laws that the proofs of this crate, and of those above it, cite.
pub mod TableNumbers
pub mod BankRanges
pub mod FixedFilters
pub mod LoadedFilters
pub mod AcceptedTables
