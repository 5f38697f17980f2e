pub mod lemmas
pub mod Merges
pub mod Kept
pub mod Newest
