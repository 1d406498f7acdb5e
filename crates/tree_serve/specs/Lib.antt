-- Hearing, Sending and Turns serve the crate's own functions alone, as Goes of Talks and HasServedNext of Connections do;
-- public clauses cite all others.
pub mod Answers
pub mod Texts
pub mod Streams
pub mod Planned
pub mod Talks
pub mod Connections
pub mod Frame
pub mod Hearing
pub mod Sending
pub mod Turns
