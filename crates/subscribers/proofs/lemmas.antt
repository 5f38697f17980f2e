-- Lemmas that proofs of other crates may cite.
pub mod Hearing
pub mod Numbered
pub mod Preparing
pub mod Wanting
