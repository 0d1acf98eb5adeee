-- What public contracts cite: whoever believes them has to read these.
pub mod Texts
pub mod Reading
-- What only contracts inside the crate cite.
pub mod Fields
pub mod Parts
