-- What public clauses cite: what is installed of a source.
pub mod Installed
pub mod Refinement
-- What serves the crate's own functions: how far a file has been read.
pub mod Verified
pub mod Summing
