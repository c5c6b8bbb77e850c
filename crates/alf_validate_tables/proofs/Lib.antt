-- Laws that the proofs of this crate, and of those above it, cite.
pub mod BitDepth
pub mod CtbParameters
pub mod Places
pub mod TableLengths
pub mod Tables
