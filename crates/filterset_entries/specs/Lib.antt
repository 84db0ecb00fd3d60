pub mod Endings
pub mod Names
pub mod Placements
pub mod Checked
pub mod Forms
pub mod Entries
pub mod Profile
pub mod Unread
