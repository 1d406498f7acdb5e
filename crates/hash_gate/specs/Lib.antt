-- What the public clauses cite: how a file compares with its sum, and which bytes were taken.
pub mod Verdict
pub mod Pieces
