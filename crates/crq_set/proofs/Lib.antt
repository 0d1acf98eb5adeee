pub mod EventSets
pub mod Balances
pub mod PlainLaws
pub mod MakerLaws
pub mod TestLaws
