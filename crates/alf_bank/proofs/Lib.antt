-- The claims about bank files (BankFiles), and the laws that they, the reader and the writer stand on.
pub mod AcceptedFiles
pub mod BankFiles
pub mod ByTag
pub mod Chains
pub mod DecodedFields
pub mod FieldFaults
pub mod FieldRows
pub mod Fields
pub mod FileOrder
pub mod Rejections
pub mod Tables
pub mod ValidBanks
pub mod WrittenBytes
pub mod WrittenFiles
