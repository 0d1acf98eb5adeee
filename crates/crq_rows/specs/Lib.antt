-- Contracts cite definitions of each of these files, so a reader has to believe them all: Passes says what a pass is and what one step changes of it, Waking how passes are made of callers that rest, Reading what a read leaves, Known what a caller last knew of a word, and Ticking,
-- Owning and Recovering what each operation knows between two steps and what its answers mean. What only proofs need stands in proofs/.
pub mod Passes
pub mod Reading
pub mod Known
pub mod Waking
pub mod Ticking
pub mod Owning
pub mod Recovering
