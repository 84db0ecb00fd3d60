pub mod RefusalLemmas
pub mod ShapeLemmas
pub mod BytesLemmas
pub mod PieceLemmas
