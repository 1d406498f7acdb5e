-- What the public clauses cite: where a file of a folder lies, and where a list may be fetched.
pub mod Beside
pub mod Candidates
