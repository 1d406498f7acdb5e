-- What public clauses cite: what a message asks for, how it is answered, what serving an input comes to.
pub mod Asked
pub mod Answers
pub mod Turns
pub mod Input
pub mod Named
pub mod Serving
-- What serves the crate's own functions: a fetch as its words come, and how far a stream has been answered.
pub mod Fetching
pub mod Taking
