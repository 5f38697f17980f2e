pub mod Counts
pub mod Releases
pub mod Requests
