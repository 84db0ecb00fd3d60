pub mod FormattingLemmas
pub mod WarningLemmas
