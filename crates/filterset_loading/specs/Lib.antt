pub mod Configurations
pub mod Files
pub mod Scripts
pub mod Table
pub mod Words
pub mod Workspaces
