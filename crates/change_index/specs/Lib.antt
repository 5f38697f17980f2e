pub mod Orders
pub mod Positions
pub mod Keeping
