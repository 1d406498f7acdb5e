-- Cited by public clauses: what a word of a lane says, the lanes as callers see them, how many fetches were begun, and what
-- holds over a whole run.
pub mod Words
pub mod Pool
pub mod Counting
pub mod Laws
-- The rule of the channel of replies with its steps, cited by this crate's own functions alone.
pub mod Rule
-- The rule of a lane's channel of jobs with its steps, likewise.
pub mod JobRule
-- Cited by this crate's own functions alone.
pub mod Slot
pub mod Working
pub mod Promises
pub mod Refinement
