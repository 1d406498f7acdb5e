-- Cited by the public clauses:
pub mod Listed
pub mod Names
pub mod Refinement
pub mod Anew
-- cited by the clauses of this crate's own functions alone:
pub mod Admitting
