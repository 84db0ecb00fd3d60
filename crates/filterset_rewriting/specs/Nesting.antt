pub mod Arguments
pub mod Depth
pub mod Levels
pub mod Tokens
