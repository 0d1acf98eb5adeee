pub mod Moving
pub mod Looking
