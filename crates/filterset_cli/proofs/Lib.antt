pub mod ReportLemmas
pub mod LookupLemmas
pub mod IndexLemmas
pub mod ColumnAnswers
pub mod ListedLemmas
