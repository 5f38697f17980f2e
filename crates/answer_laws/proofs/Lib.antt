pub mod Between
pub mod Expanded
pub mod Got
pub mod Listed
pub mod Named
pub mod TagParts
pub mod Told
