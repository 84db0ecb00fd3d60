pub mod Shape
pub mod Paths
pub mod Refusals
pub mod Places
pub mod Faults
pub mod Marks
pub mod Runs
pub mod Pieces
