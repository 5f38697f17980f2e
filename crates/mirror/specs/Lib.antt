pub mod FaultText
pub mod Shares
pub mod Turns
pub mod Understanding
