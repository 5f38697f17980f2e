-- Lemmas that proofs of other crates may cite.
pub mod Meanings
pub mod Told
pub mod Walks
