pub mod Cuts
pub mod Expanding
pub mod Letters
pub mod Parts
pub mod Places
pub mod Searching
