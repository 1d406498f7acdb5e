-- Cited by public clauses.
pub mod BothMethod
