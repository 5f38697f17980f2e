pub mod Histories
pub mod HistoryRule
pub mod ShownRule
pub mod Views
pub mod Entering
