pub mod AnswerLemmas
pub mod CallLemmas
pub mod CostLemmas
pub mod FrontLemmas
pub mod QueueLemmas
pub mod TimeoutLemmas
