pub mod Appending
pub mod Untold
