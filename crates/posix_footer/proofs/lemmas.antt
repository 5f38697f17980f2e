-- Lemmas that proofs of other crates may cite.
pub mod ChangeLemmas
pub mod Lawfulness
pub mod NextLemmas
pub mod OnsetLemmas
pub mod Repeating
pub mod StateLemmas
pub mod YearLemmas
