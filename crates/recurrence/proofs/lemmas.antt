-- Lemmas that proofs of other crates may cite.
pub mod AllRead
pub mod AllYear
pub mod FormFields
pub mod InYear
pub mod Onsets
pub mod PartFields
pub mod Weekdays
