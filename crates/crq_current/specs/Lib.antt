-- Contracts cite the definitions of this file, so a reader has to believe them.
pub mod Positions
