-- Lemmas that proofs of other crates may cite.
pub mod Rising
pub mod DigitTexts
pub mod PlainEntries
pub mod NameIndex
pub mod LastRelease
pub mod HistoryLemmas
pub mod Growing
pub mod SameZones
pub mod Tokens
