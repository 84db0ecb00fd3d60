pub mod Calls
pub mod Fronts
pub mod Links
pub mod Nesting
pub mod Reading
pub mod Showing
pub mod Spelling
pub mod Tokens
