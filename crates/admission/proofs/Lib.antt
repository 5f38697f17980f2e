pub mod Naming
pub mod Changes
pub mod Ordered
pub mod Asked
pub mod lemmas
