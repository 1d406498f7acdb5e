-- Cited by the public clauses:
pub mod Refinement
pub mod Heard
-- cited by the clauses of this crate's own functions alone:
pub mod Ended
