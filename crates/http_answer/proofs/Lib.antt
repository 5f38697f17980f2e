pub mod Joining
pub mod Keeping
