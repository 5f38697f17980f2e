pub mod Calendars
pub mod Hearing
pub mod Holding
pub mod Primaries
pub mod Reaching
pub mod Worlds
