pub mod BestLemmas
pub mod LargerLemmas
pub mod lemmas
