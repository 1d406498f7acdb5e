-- Cited by public clauses: what a reader has to believe of opening a journal, and of a commit.
pub mod Refusals
pub mod Opening
pub mod Changes
pub mod Commits
pub mod Recorded
pub mod Runs
-- Cited by this crate's own functions and proofs alone.
pub mod Phases
pub mod Turning
pub mod Laying
pub mod Moves
