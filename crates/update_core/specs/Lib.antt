-- Cited by the public clauses:
pub mod BoardRefinement
pub mod TakenIn
-- cited by the clauses of this crate's own functions alone:
pub mod Refinement
