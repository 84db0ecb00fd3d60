pub mod Answers
pub mod Compiled
pub mod Binaries
pub mod Picks
pub mod Overriding
pub mod Picking
pub mod Explained
