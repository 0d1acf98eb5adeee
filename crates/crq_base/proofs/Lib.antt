pub mod Elements
pub mod KeyOrder
pub mod WordLaws
pub mod HistoryLaws
pub mod Deeds
pub mod Searches
pub mod Leasts
pub mod Verdicts
