pub mod ListLemmas
pub mod GivingLemmas
pub mod ApplyingLemmas
pub mod KeyLemmas
pub mod ReasonLemmas
