-- Lemmas that proofs of other crates may cite.
pub mod Worlds
pub mod Following
pub mod Syncing
pub mod Settling
pub mod Histories
pub mod Rising
