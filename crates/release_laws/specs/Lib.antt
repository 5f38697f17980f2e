pub mod Covered
pub mod Hashed
pub mod States
