pub mod ZonesShown
pub mod lemmas
