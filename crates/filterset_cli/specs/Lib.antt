pub mod Index
pub mod Lookup
pub mod Library
pub mod Lines
pub mod Asking
pub mod Report
