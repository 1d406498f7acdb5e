-- Cited by public clauses: what a reader has to believe of the journal.
pub mod Names
pub mod Steps
pub mod Reading
pub mod Spelling
pub mod Reopen
pub mod Rest
-- Cited by this crate's own functions alone.
pub mod Writing
pub mod Seen
