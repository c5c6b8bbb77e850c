-- Laws that the proofs of this crate cite.
pub mod AxisSteps
pub mod BlockBounds
pub mod BlockEdges
pub mod Blocks
pub mod CtbOrder
pub mod CtbSteps
pub mod CtbTests
pub mod ListSearch
