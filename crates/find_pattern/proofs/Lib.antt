pub mod PieceLemmas
pub mod SameLemmas
pub mod SpellingLemmas
