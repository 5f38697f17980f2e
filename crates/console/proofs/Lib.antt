pub mod LineLemmas
pub mod Meant
pub mod NumberLemmas
pub mod PlaceLemmas
pub mod StepLemmas
