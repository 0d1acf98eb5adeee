-- What public contracts cite, directly or through other definitions. Whoever believes them has to read these first: where each word lies, what the core state is, what each kind of step does to it and when it may come, a new table, and a
-- deal. Of Kinds, ListKinds, CurrentKinds, MoveKinds, CopyKinds and PinKinds, what changes what a Caller knows is cited by the crates above alone (`scans`, `walks` and the like): the laws speak of the whole state after a step (`After`).
pub mod Widths
pub mod Places
pub mod Lists
pub mod Ranks
pub mod Core
pub mod Kinds
pub mod ListKinds
pub mod CurrentKinds
pub mod MoveKinds
pub mod CopyKinds
pub mod PinKinds
pub mod Steps
pub mod Rule
pub mod Opening
pub mod Deals
pub mod Owing
-- Then what holds of every state that is reached, part by part.
pub mod Stated
-- The invariant, and the parts that it is made of. A reader needs of these files only the few words that those above cite by name: the laws say that a new table meets the invariant, that each step keeps it, and that it implies what is
-- stated, so that its own records need no belief.
pub mod Parts
pub mod ListParts
pub mod Steady
pub mod HistoryParts
pub mod ScarceParts
pub mod Bounds
pub mod Ahead
pub mod Helping
pub mod Copies
pub mod Ending
pub mod Invariant
-- What only proofs and the crates above cite.
pub mod Moves
