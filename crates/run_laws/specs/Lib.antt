pub mod Onsets
pub mod Runs
pub mod Stretches
