-- The laws by which the reader meets its contract.
pub mod FieldTests
pub mod Steps
pub mod Fills
pub mod Readings
