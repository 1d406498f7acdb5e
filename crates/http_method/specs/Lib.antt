-- Cited by public clauses.
pub mod Line
pub mod Reading
pub mod HttpMethod
