-- What public contracts cite: whoever believes them has to read these.
pub mod Groups
-- What only contracts inside the crate cite.
pub mod Arranged
