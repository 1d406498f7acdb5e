-- What public clauses cite:
pub mod Faults
pub mod Packages
pub mod Refused
pub mod Report
-- What serves the crate's own functions too: the words for a cause, and the lines of one source.
pub mod Causes
pub mod Sources
