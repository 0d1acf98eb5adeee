-- What public contracts cite: whoever believes them has to read these. First what is known of a pass, and what calls do to it.
pub mod Views
pub mod Answers
-- Then what gathering and dealing do.
pub mod Gathered
-- Then what a plain set keeps, for its own proofs.
pub mod Plain
