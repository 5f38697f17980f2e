pub mod Keeping
pub mod Mirrors
pub mod Names
pub mod Published
pub mod Steps
