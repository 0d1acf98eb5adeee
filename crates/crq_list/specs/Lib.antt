-- Contracts cite definitions of each of these files, so a reader has to believe them all. Operations says what is required of an operation that is under way, and what is told of its steps. Inserting, Taking and Cutting say what is
-- known at each state of an operation and what each answer means, and Seeking says that of the walk which insertions and cuts share. Spots and Sweeps have the words for places in a list and for the way along it, Swaps what single
-- steps on links do, Helps what a step leaves to a caller that helps a move, and Known and Stretches how steps follow on one another. The names that end in `_left` bound how many steps come before the next exchange. Of these files proofs alone cite the names that end in `Stretch`; what
-- else only proofs need stands in proofs/.
pub mod Known
pub mod Sweeps
pub mod Spots
pub mod Swaps
pub mod Stretches
pub mod Operations
pub mod Helps
pub mod Seeking
pub mod Inserting
pub mod Cutting
pub mod Taking
