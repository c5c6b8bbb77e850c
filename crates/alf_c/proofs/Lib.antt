-- Claims about the C interface.
pub mod WrittenCauses
