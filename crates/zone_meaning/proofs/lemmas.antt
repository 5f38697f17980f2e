-- Lemmas that proofs of other crates may cite.
pub mod ChangeLists
pub mod Members
pub mod NameLemmas
pub mod Periods
pub mod RangeLemmas
pub mod RuleLemmas
pub mod Types
