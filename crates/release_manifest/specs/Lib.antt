pub mod Checks
pub mod FaultText
pub mod Meaning
pub mod Reading
