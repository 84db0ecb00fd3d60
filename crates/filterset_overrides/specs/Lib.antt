pub mod Applying
pub mod Giving
pub mod Asking
pub mod Counting
pub mod Applied
pub mod ExplainedText
pub mod TableText
