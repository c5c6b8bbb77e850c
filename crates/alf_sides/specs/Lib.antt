-- What the contracts of this crate, and of those that read the table, say beside the definitions of `alf_spec`.
pub mod Entries
pub mod Planned
