-- What contracts cite: whoever believes them has to read these.
pub mod Workers
pub mod Waiting
pub mod Teams
