pub mod Differences
pub mod Rules
