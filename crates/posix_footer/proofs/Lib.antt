pub mod Again
pub mod AgainWhole
pub mod lemmas
pub mod DaylightLemmas
pub mod EdgeStates
pub mod Found
pub mod FoundWhole
pub mod Runs
