-- Laws that the proofs of this crate cite.
pub mod Powers
pub mod Ranges
pub mod Searches
