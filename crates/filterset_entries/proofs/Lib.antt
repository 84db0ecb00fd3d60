pub mod LineLemmas
pub mod RowsLemmas
pub mod UnreadLemmas
