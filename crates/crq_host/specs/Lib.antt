-- What public contracts cite: whoever believes them has to read these. First the history of a run in windows, then how a drive ends.
pub mod Histories
pub mod Drives
-- What only contracts inside the crate cite: where the run stands, what one phase of a window does to the history, and what the workers make of its events.
pub mod Progress
pub mod Courses
pub mod Phases
pub mod Workers
pub mod Shares
