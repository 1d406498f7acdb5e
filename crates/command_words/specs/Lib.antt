-- Cited by the public clauses: what the words of a command line ask for.
pub mod Words
pub mod Side
