pub mod Bounds
pub mod lemmas
