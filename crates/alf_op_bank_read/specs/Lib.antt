-- What the reader's functions ask and say of a field and of a position.
pub mod Fields
