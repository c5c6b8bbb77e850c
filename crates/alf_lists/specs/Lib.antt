-- Lists that are written part by part, for the contracts of all crates above.
pub mod Filled
pub mod Overwrite
pub mod Regions
