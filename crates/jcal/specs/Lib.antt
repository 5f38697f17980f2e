pub mod Reading
pub mod Tree
pub mod TreeTokens
pub mod Values
