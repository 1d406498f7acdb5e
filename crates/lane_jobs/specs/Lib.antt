-- What public clauses cite: the jobs that are out,
pub mod JobsOut
-- what a run is between two of their words,
pub mod Going
-- and what one answer is, whichever lane it came from.
pub mod Answering
-- How many fetches were begun.
pub mod Begins
