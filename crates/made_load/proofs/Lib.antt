pub mod AskLemmas
pub mod ZoneLemmas
