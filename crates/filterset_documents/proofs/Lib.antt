pub mod ContentLemmas
pub mod FindLemmas
pub mod JoinLemmas
