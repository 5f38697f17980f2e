-- Lemmas that proofs of other crates may cite.
pub mod CalendarAgain
pub mod Counting
pub mod DateText
pub mod ReadBack
pub mod SameStates
pub mod Shown
pub mod Spelled
pub mod TextBytes
pub mod Years
