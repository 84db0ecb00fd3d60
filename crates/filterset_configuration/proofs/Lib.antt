mod PieceLemmas
mod StringLemmas
mod PlaceLemmas
pub mod EditLemmas
pub mod KeyLemmas
pub mod Finds
pub mod Zips
pub mod Reading
pub mod OtherKeys
pub mod Ranks
pub mod OverrideDefaults
pub mod Chains
pub mod LeadLemmas
pub mod EndLemmas
pub mod CircleLemmas
pub mod WrongLemmas
pub mod PlatformWords
pub mod PlatformPhrases
pub mod PlatformLists
pub mod PlatformTruth
pub mod PlatformLines
pub mod PlatformRows
pub mod PlatformFaults
