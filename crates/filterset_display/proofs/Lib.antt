pub mod ColumnLemmas
pub mod LineLemmas
pub mod MetLemmas
mod ChangeLemmas
pub mod FrameLemmas
mod HeadLemmas
mod MessageLemmas
mod PositionLemmas
mod RefusalLemmas
mod ServerLemmas
mod SessionLemmas
mod WrittenLemmas
