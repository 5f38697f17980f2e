pub mod Cut
pub mod FaultText
pub mod Faults
pub mod Layout
pub mod LeapSteps
pub mod Places
pub mod Slim
pub mod Views
