pub mod Answers
pub mod Asking
pub mod Contents
pub mod Follows
pub mod Logs
pub mod Runs
pub mod Settling
