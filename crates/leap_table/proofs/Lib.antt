pub mod Dated
pub mod Rising
pub mod Tables
