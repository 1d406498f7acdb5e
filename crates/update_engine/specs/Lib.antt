-- What public clauses cite: what is asked of a run, and what it promises,
pub mod Run
-- and where it stands between two of its steps.
pub mod Session
-- For the crate's own functions: what is read as a run begins.
pub mod Reading
