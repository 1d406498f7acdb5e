-- Public clauses cite Heads, Asked and Reading. Tests serves the crate's own functions alone.
pub mod Heads
pub mod Asked
pub mod Reading
pub mod Tests
