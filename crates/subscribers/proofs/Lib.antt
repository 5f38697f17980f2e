pub mod Lists
pub mod lemmas
