-- Sending serves the crate's own functions alone; public clauses cite all others.
pub mod Served
pub mod Link
pub mod Sending
