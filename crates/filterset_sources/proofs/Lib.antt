pub mod ShapeLemmas
pub mod GraphLemmas
pub mod KindLemmas
pub mod ConfigurationLemmas
pub mod PlatformLemmas
pub mod TestLemmas
