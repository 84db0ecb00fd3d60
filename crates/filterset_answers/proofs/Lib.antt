pub mod AnswersLemmas
pub mod CompilingLemmas
pub mod GroupingLemmas
pub mod OverridingLemmas
pub mod PickingLemmas
