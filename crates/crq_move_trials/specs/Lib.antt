-- What contracts cite: whoever believes them has to read these.
pub mod Moving
pub mod Looking
