-- the definition of the language
pub mod Text
pub mod Tree
pub mod Equality
pub mod Patterns
pub mod Platforms
pub mod Grammar
pub mod Printing
pub mod AddedParens
pub mod Bans
-- for the proofs of equality
pub mod EqualityLaws
