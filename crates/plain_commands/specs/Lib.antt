pub mod CheckingSteps
pub mod LoadSteps
pub mod CalendarSteps
