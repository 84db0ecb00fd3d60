pub mod AnyLemmas
pub mod LineLemmas
pub mod MarkLemmas
pub mod MeaningLemmas
pub mod SieveLemmas
pub mod SomethingLemmas
mod GapLemmas
mod GatherLemmas
mod StandingLemmas
