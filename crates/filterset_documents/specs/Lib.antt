pub mod Contents
pub mod Diagnostics
pub mod Filtersets
pub mod Joins
pub mod Ranges
