pub mod Beginnings
pub mod StepLemmas
pub mod LastSet
pub mod EnteringLemmas
pub mod AddingLemmas
pub mod StageLemmas
