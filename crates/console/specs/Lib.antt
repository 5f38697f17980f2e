pub mod Lines
pub mod Replies
pub mod Steps
pub mod Words
