-- Cited by the crates above too: names no two of which are one, names within filters, and those that no source owns.
pub mod Apart
pub mod Sorting
pub mod Recording
pub mod Gone
-- Of this crate's own laws.
pub mod Begins
pub mod Carrying
pub mod Folding
pub mod Fronts
pub mod Owned
pub mod Turns
pub mod Theorems
