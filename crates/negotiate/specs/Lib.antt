pub mod Choices
pub mod Marks
pub mod Qualities
pub mod Tags
