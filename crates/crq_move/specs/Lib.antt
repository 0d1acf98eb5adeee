-- Contracts cite the definitions of these files, so a reader has to believe them all. Announcing says what the announcement of a table answers, and why, Names which dead rows a pass names at run time, Reads what was read of an event, Steps what single steps of a move do to a pass, Helpers what a caller
-- knows that helps a move, and what each step of a part of it tells, and Preparing, Freezing and Emptying what is known at each state of those three parts, and what each answer means.
pub mod Names
pub mod Reads
pub mod Steps
pub mod Endings
pub mod Helpers
pub mod Preparing
pub mod Freezing
pub mod Emptying
pub mod Pinning
pub mod Finishing
pub mod Helping
pub mod Announcing
pub mod Binding
