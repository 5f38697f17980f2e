pub mod Actions
pub mod Marks
pub mod Names
pub mod Parameters
pub mod Paths
