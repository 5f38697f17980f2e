pub mod CalendarShares
pub mod CalendarTurns
pub mod FaultText
pub mod Judging
