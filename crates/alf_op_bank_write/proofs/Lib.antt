-- The laws by which the writer meets its contract.
pub mod FieldBytes
pub mod Files
