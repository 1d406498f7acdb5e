-- What the public clauses cite, which is what a reader has to believe.
pub mod Control
pub mod Refused
pub mod Written
-- What serves the crate's own functions.
pub mod Seen
pub mod Names
pub mod Scan
