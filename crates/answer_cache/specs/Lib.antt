pub mod Computing
pub mod Keeping
pub mod Ready
