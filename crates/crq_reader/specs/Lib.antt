-- What public contracts cite: whoever believes them has to read these.
pub mod Language
pub mod Canonical
pub mod Wording
-- What only contracts inside the crate cite.
pub mod Drafts
