-- Lemmas that proofs of other crates may cite.
pub mod JsonLemmas
pub mod ListFound
pub mod ListReads
pub mod ListSteps
pub mod PlainUtf8
pub mod PlainStamps
pub mod ProblemReads
