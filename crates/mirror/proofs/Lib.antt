mod Counts
pub mod lemmas
