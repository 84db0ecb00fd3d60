pub mod Alike
pub mod Implying
pub mod Simple
pub mod Pruned
pub mod Answers
pub mod Simplified
pub mod Reducing
