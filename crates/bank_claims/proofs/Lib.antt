-- The claims about the beginning of a bank file (FilePrefixes) and about its offending cross-component filters (OffendingFields), and the
-- laws that they stand on.
pub mod FieldPrefixes
pub mod FilePrefixes
pub mod OffendingFields
