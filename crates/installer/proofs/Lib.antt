pub mod Given
pub mod Hearers
pub mod InstallLemmas
pub mod lemmas
pub mod Stated
pub mod Whether
