-- What public clauses cite. Which bytes are an Index, and the refusals:
pub mod Refused
pub mod Index
-- which patches lead on, and what the Index and they are in terms of lines:
pub mod Chain
pub mod Listed
-- What serves the crate's own functions: the sums of steps beside one more.
pub mod Sums
