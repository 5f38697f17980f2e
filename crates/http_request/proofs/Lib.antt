pub mod AskLemmas
pub mod EndLemmas
pub mod HeldLemmas
pub mod JoinLemmas
pub mod LookLemmas
pub mod ScanLemmas
pub mod lemmas
pub mod TakingLemmas
