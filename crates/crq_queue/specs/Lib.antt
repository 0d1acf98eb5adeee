-- What public contracts cite: whoever believes them has to read these.
pub mod Wholes
pub mod Runs
pub mod Parts
pub mod Calls
pub mod Waits
pub mod Makers
pub mod Sets
-- What only contracts inside the crate cite.
pub mod Stages
