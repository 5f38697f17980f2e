pub mod PoolLemmas
pub mod StepLemmas
