pub mod CalendarReads
pub mod CapabilityReads
pub mod Readable
