-- Laws that the proofs of this crate cite.
pub mod ListedCtbs
pub mod AcceptedFilters
pub mod CtbFilters
pub mod FilteredCtbs
pub mod SpreadZeros
pub mod Copies
