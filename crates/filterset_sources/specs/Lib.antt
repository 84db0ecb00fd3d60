pub mod Shape
pub mod Refusals
pub mod Metadata
pub mod Suites
pub mod Sections
pub mod Configurations
pub mod Platforms
