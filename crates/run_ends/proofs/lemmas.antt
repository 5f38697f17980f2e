-- Lemmas that proofs of other crates may cite.
pub mod Completing
pub mod Endings
pub mod GivenFolders
pub mod Installing
pub mod Learning
pub mod Reaching
pub mod Refusals
pub mod Runs
pub mod SessionLemmas
pub mod WrittenTexts
