pub mod Calendars
pub mod Expansions
pub mod Files
pub mod Lists
pub mod Requested
