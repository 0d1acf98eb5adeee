-- What a reader must believe: which events a caller may put, and what it did.
pub mod Deeds
