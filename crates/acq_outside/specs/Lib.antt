-- Cited by public clauses: what a reader has to believe of the outside.
pub mod Count
pub mod Refusals
pub mod Etc
pub mod Disk
pub mod Frame
pub mod Stays
pub mod Looks
pub mod Fetches
pub mod History
pub mod Crash
pub mod States
pub mod Choice
pub mod Mirror
pub mod Word
pub mod Tree
pub mod Files
pub mod Inlet
pub mod Sink
-- Cited by this crate's own functions and proofs alone.
pub mod Whole
