pub mod Answer
pub mod Bounds
pub mod Calendar
pub mod Cycles
pub mod Reading
pub mod SameLocal
pub mod Stamp
pub use Rattle.jiff_core.specs.Calendar as Gregorian
