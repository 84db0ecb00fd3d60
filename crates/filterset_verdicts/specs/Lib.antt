pub mod ListedTests
pub mod Reasons
pub mod VerdictForm
pub mod VerdictJson
pub mod VerdictText
pub mod Verdicts
pub mod Deciding
