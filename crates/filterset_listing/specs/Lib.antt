-- cited by public contracts
-- for the proofs
pub mod Asking
pub mod Columns
pub mod Comparing
pub mod ComparisonText
pub mod Explaining
pub mod ExplanationText
pub mod Finding
pub mod Groups
pub mod ListJson
pub mod ListText
pub mod Listing
pub mod NamedPackages
pub mod Needless
pub mod Nodes
pub mod Operands
pub mod Overrides
pub mod Pickers
pub mod Selection
pub mod SubjectValues
pub mod Subjects
pub mod Union
pub mod Unmatched
pub mod Values
