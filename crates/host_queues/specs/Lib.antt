-- Cited by the public clauses:
pub mod Lanes
pub mod Refinement
-- what the laws of this crate say:
pub mod Laws
