pub mod lemmas
pub mod Gets
pub mod Pairs
pub mod ReadyLemmas
