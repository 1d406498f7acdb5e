-- What the public clauses cite, which is what a reader has to believe.
pub mod Lexemes
pub mod Tokens
pub mod Keys
pub mod Statements
pub mod Reading
pub mod Refused
pub mod Refusals
pub mod Values
pub mod Settings
pub mod Grammar
pub mod Pieces
-- What serves the crate's own functions.
pub mod Entries
pub mod Answers
pub mod Progress
