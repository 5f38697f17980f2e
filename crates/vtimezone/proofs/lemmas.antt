-- Lemmas that proofs of other crates may cite.
pub mod Gathered
pub mod Identifiers
pub mod NumbersBack
pub mod ValuesBack
pub mod Whole
pub mod ZoneRange
