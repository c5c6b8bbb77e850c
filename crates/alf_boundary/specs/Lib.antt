-- What the contracts of this crate say beside the definitions of `alf_spec`.
pub mod Clips
pub mod Memberships
pub mod Neighbours
pub mod SideCauses
pub mod Tables
