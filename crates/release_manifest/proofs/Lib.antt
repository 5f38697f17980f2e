pub mod CheckLemmas
pub mod MeaningLemmas
pub mod ReadingLemmas
pub mod lemmas
