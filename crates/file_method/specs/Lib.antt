-- Cited by public clauses.
pub mod TreeMirror
pub mod FileMethod
pub mod Joined
-- Cited by this crate's own functions alone.
pub mod Piece
