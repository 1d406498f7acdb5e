-- Cited by public clauses.
pub mod Served
