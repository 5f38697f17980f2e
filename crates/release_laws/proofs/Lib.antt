pub mod SameBytes
pub mod SameHistories
pub mod Short
pub mod Sized
pub mod Stated
