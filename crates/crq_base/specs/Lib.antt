-- What public contracts cite: whoever believes them has to read these. First what events, entries and legal histories are.
pub mod Lists
pub mod Keys
pub mod Entries
pub mod Histories
pub mod Faults
-- Then who may put which event, what a refusal counts, and where a set may begin.
pub mod Sources
pub mod Refusals
pub mod Sizes
pub mod Starts
-- Last the packed words, which only the crates of the shared table read.
pub mod Words
