pub mod FaultText
pub mod Marks
pub mod Matching
pub mod Patterns
pub mod Pieces
pub mod Spelling
