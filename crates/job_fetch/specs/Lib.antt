-- What public clauses cite: what a fetch comes to, and how it goes on from word to word.
pub mod Fetched
pub mod Hearing
pub mod Others
-- A list's file while pieces come.
pub mod Pieces
