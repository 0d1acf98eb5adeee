-- What public contracts and laws cite: whoever believes them has to read these.
pub mod Names
pub mod Models
pub mod Kinds
pub mod Draws
pub mod Generated
pub mod Reactions
pub mod EventLists
pub mod Runs
pub mod Simulations
pub mod Windows
pub mod WindowRuns
pub mod Ends
pub mod Examples
-- What only contracts inside the crate cite.
pub mod Shown
pub mod Heaps
