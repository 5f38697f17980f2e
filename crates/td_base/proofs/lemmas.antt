-- Lemmas that proofs of other crates may cite.
pub mod Beginnings
pub mod FaultLemmas
pub mod LaterLemmas
pub mod LeastLemmas
pub mod PlainLemmas
