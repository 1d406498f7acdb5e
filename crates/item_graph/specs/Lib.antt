-- Cited by the public clauses:
pub mod Refinement
pub mod OldFiles
pub mod Single
pub mod Sound
-- what the laws of this crate say:
pub mod Histories
pub mod Laws
-- cited by the clauses of this crate's own functions alone:
pub mod Patched
pub mod Nexts
pub mod Ways
