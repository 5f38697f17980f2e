pub mod NameLemmas
pub mod PlaceLemmas
pub mod SegmentLemmas
pub mod ValueLemmas
