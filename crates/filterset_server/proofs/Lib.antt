mod ActionLemmas
mod BecomingLemmas
mod EditLemmas
mod MarkLemmas
