pub mod FaultText
pub mod Installing
pub mod Serving
pub mod Views
