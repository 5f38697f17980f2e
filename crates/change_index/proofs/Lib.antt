pub mod Sorting
pub mod Restoring
pub mod Cutting
