pub mod FaultText
pub mod Hearing
pub mod News
pub mod Views
pub mod Wishes
