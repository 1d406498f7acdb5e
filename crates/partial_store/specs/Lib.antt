-- What public clauses cite: what a part is seen as.
pub mod Refinement
