pub mod FaultText
pub mod LineLengths
pub mod Lines
pub mod Unfolding
