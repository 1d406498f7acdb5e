-- What public clauses cite: a message's lines, how one is written, what a stream holds, and why one is refused.
pub mod Lines
pub mod Written
pub mod Streams
pub mod Refused
pub mod Again
-- What serves the crate's own functions: how far a stream has been read.
pub mod Within
