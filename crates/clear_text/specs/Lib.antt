-- What public clauses cite: what a frame is, what it holds, and why a text is refused.
pub mod Frame
pub mod Unframed
pub mod Refused
-- What serves the crate's own functions: the lines that are still to be taken.
pub mod Lines
