pub mod Limits
pub mod Numbers
pub mod Records
pub mod Statuses
pub mod Steps
pub mod Storing
pub mod Texts
