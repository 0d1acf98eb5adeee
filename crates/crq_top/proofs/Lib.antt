pub mod Meaning
pub mod Spelling
pub mod Words
pub mod Fitting
pub mod Drives
