pub mod VerdictLemmas
pub mod ListedLemmas
pub mod VerdictJsonLemmas
pub mod ReasonLemmas
pub mod VerdictTextLemmas
pub mod TreeLemmas
pub mod NamingLemmas
