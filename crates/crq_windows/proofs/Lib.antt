pub mod ArrangedLemmas
pub mod SegmentLemmas
pub mod GroupLemmas
pub mod LawLemmas
