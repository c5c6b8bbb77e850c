-- What the writer's functions ask of a filter.
pub mod FieldBytes
